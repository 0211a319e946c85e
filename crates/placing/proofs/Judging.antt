-- What a token that is not refused says of the state before it.
use Rattle.std.proofs.Common.{◌≡◌, ℕ, true, false, eqb, List, Ok, Err, Option, Result, ap, ◌∙◌}
use Rattle.std.proofs.lemmas.Bool.{cond_both, or_right, and_from, eq-eqb}
use Rattle.fault.specs.declared.Refusal.{Refusal}
use Rattle.label.specs.Kind.{Kind}
use Rattle.text.specs.declared.token.Mark.TheVariants as marks
use Rattle.text.specs.Packed.{pack, spelling}
use Rattle.text.specs.Shapes.{is_word, is_name}
use Rattle.text.specs.Tokens as tokens
use Rattle.text.specs.Answer.{proper}
use Rattle.text.proofs.Packing.{spelling_pack}
use Rattle.text.proofs.Shapes.{named_bytes}
use Rattle.grammar.specs.declared.event.Event.{Event}
use Rattle.grammar.specs.Seen.{Seen, sees, word, number, name, comma, open_paren, close_paren, open_brace, close_brace, equal, at_sign, other}
use Rattle.grammar.specs.State.{State}
use Rattle.grammar.specs.Tests.{foreign_label, unexpected, too_deep, ninth_port, third_standing, misplaced_set, crowded, wrong_set}
use Rattle.grammar.specs.Reading.{judged, event_of}
use Rattle.grammar.specs.Events.{proper_name}

-- a token at which no number is at fault
pub record Right {L : Type 0} (k : Kind L) (st : State) (s : Seen) : Type 0 where
  pub label : foreign_label k st s ≡ false
  pub form : unexpected st s ≡ false
  pub depth : too_deep st s ≡ false
  pub ports : ninth_port st s ≡ false
  pub names : third_standing st s ≡ false
  pub cell_set : misplaced_set st s ≡ false
  pub connectors : crowded st s ≡ false
  pub number : wrong_set st s ≡ false

-- what holds of each refusal, and of the token's event where it is right, holds of the verdict
pub by_verdict : {L : Type 0} (k : Kind L) (st : State) (s : Seen) (P : Result (Option (Event L)) Refusal → Type 0) → ((r : Refusal) → P (Err r)) → (Right k st s → P (Ok (event_of k st s))) → P (judged k st s)
by_verdict k st s P refused right =
    cond_both (foreign_label k st s) _ _ P (λ _. refused _) (λ a.
    cond_both (unexpected st s) _ _ P (λ _. refused _) (λ b.
    cond_both (too_deep st s) _ _ P (λ _. refused _) (λ c.
    cond_both (ninth_port st s) _ _ P (λ _. refused _) (λ d.
    cond_both (third_standing st s) _ _ P (λ _. refused _) (λ e.
    cond_both (misplaced_set st s) _ _ P (λ _. refused _) (λ f.
    cond_both (crowded st s) _ _ P (λ _. refused _) (λ g.
    cond_both (wrong_set st s) _ _ P (λ _. refused _) (λ h.
    right (record { label = a; form = b; depth = c; ports = d; names = e; cell_set = f; connectors = g; number = h })))))))))

-- a name among the tokens is a packed line name
abbrev pub Named : Seen → Type 0
Named (word w) = Unit {0}
Named (number w) = Unit {0}
Named (name n) = proper_name n ≡ true
Named comma = Unit {0}
Named open_paren = Unit {0}
Named close_paren = Unit {0}
Named open_brace = Unit {0}
Named close_brace = Unit {0}
Named equal = Unit {0}
Named at_sign = Unit {0}
Named other = Unit {0}

packed_proper : (w : List ℕ) → is_name w ≡ true → proper_name (record { packed = pack w }) ≡ true
packed_proper w h =
    let b = named_bytes w (or_right (is_word w) (is_name w) h) in
    let e = spelling_pack w b.0 b.1 in
    and_from (is_name (spelling (pack w))) (eqb (pack (spelling (pack w))) (pack w)) (ap is_name e ∙ h) (eq-eqb (pack (spelling (pack w))) (pack w) (ap pack e))

pub sees_named : (t : tokens.Tok) → proper t ≡ true → Named (sees t)
sees_named (tokens.word w) h = tt
sees_named (tokens.name w) h = packed_proper w h
sees_named (tokens.number w) h = tt
sees_named (tokens.mark marks.Open) h = tt
sees_named (tokens.mark marks.Close) h = tt
sees_named (tokens.mark marks.OpenBrace) h = tt
sees_named (tokens.mark marks.CloseBrace) h = tt
sees_named (tokens.mark marks.Comma) h = tt
sees_named (tokens.mark marks.Stop) h = tt
sees_named (tokens.mark marks.Colon) h = tt
sees_named (tokens.mark marks.Equal) h = tt
sees_named (tokens.mark marks.Dollar) h = tt
sees_named (tokens.mark marks.At) h = tt
sees_named (tokens.mark marks.Turn) h = tt
