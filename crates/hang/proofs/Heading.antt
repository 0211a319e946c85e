-- The head of a reader's events.
use Rattle.std.proofs.Common.{◌≡◌, ℕ, true, false, None, refl, arith}
use Rattle.std.proofs.lemmas.Bool.{both_ways}
use Rattle.label.specs.Kind.{Kind}
use Rattle.text.specs.declared.packed.Name.{Name}
use Rattle.grammar.specs.Laws.{fault_of}
use Rattle.grammar.specs.Reading.{Events, event, end, fault}
use Rattle.placing.specs.Placing.{Placing, place_all}
use Rattle.hang.specs.Next.{halted}

-- where no event comes and there is no fault, the text ends
pub ends_there : {L : Type 0} (es : Events L) → halted es ≡ true → fault_of es ≡ None → es ≡ end
ends_there (event e rest) h f = absurd (both_ways false refl h)
ends_there end h f = refl
ends_there (fault x) h f = let z : ◌≡◌ {A = ℕ} 0 1 = cc in absurd (omega arith)

pub all_halted : {L : Type 0} (k : Kind L) (link : Name → _) (q : Placing L) (es : Events L) → halted es ≡ true → place_all k link q es ≡ q
unfolding place_all
all_halted k link q (event e rest) h = absurd (both_ways false refl h)
all_halted k link q end h = refl
all_halted k link q (fault f) h = refl
