use Rattle.std.proofs.Common.{◌≡◌, ◌∙◌, sym, rules}
use Rattle.grammar.proofs.Looking.{blank, note_again, note_new, refilled}
use Rattle.grammar.proofs.table.Names.note.Goals as goal

pub returns-in-Some-clause-is : goal.returns-in-Some-clause-is
returns-in-Some-clause-is c =
    let s = c.args.self.now.rows.items in
    let e : c.deref_mut.result.now ≡ s = c.deref_mut.ensures.value in
    rw e (refilled s c.in-Some.row _ ∙ note_again c.args.name c.args.place c.in-Some.row s blank (sym c.in-Some.is ∙ c.requires.at))

pub returns-in-None-clause-is : goal.returns-in-None-clause-is
returns-in-None-clause-is c = search (rules, note_new)
