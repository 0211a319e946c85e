use Rattle.std.proofs.Common.{◌≡◌, ◌<◌, length, get_or, drop, Ok, Err, sym, ap, ◌∙◌, rules}
use Rattle.text.specs.Tokens.{front}
use Rattle.text.proofs.Slices.{past_is}
use Rattle.text.proofs.Streams.{tokens_first, tokens_fault, tokens_turn, tokens_colon}
use Rattle.text.proofs.lexer.begin.Goals as goal

pub returns-in-58 : goal.returns-in-58
returns-in-58 c =
    let s = c.args.text.now in
    let h : 1 < length s = search rules in
    let a : get_or s 0 0 ≡ 58 = search rules in
    let b : get_or s 1 0 ≡ 45 = search rules in
    record { is = sym (tokens_turn s c.args.place h a b); ahead = search rules }

pub returns-in-58-2 : goal.returns-in-58-2
returns-in-58-2 c =
    let s = c.args.text.now in
    let h : 0 < length s = search rules in
    let a : get_or s 0 0 ≡ 58 = search rules in
    let b : (1 < length s → get_or s 1 0 ≡ 45 → ⊥) = search rules in
    record { is = sym (tokens_colon s c.args.place h a b); ahead = search rules }

pub returns-in_ok-sort-in-len1-up : goal.returns-in_ok-sort-in-len1-up
returns-in_ok-sort-in-len1-up c =
    let s = c.args.text.now in
    let p = past_is 1 s in
    let f : front (get_or s 0 0) (drop 1 s) ≡ Ok (c.in_ok-sort-in-len1-up.sort, c.in_ok-sort-in-len1-up.more) = ap (front (get_or s 0 0)) (sym p) ∙ search rules in
    let l : c.in_ok-sort-in-len1-up.more < length s = search rules in
    let t = tokens_first s c.args.place c.in_ok-sort-in-len1-up.more c.in_ok-sort-in-len1-up.sort c.requires.some c.requires.bare f l in
    let a = c.split_at.ensures.front in
    let b = c.split_at.ensures.back in
    let k = c.token_of.ensures in
    record { is = cc; ahead = search rules }

pub returns-in_err-sort-in-len1-up : goal.returns-in_err-sort-in-len1-up
returns-in_err-sort-in-len1-up c =
    let s = c.args.text.now in
    let f : front (get_or s 0 0) (drop 1 s) ≡ Err c.in_err-sort-in-len1-up.field-0.0.refusal = ap (front (get_or s 0 0)) (sym (past_is 1 s)) ∙ search rules in
    let t = tokens_fault s c.args.place _ c.requires.some c.requires.bare f in
    record { is = search rules; ahead = search rules }
