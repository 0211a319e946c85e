-- The numbers of links, and the connectors between free ones.
use Rattle.std.proofs.Common.{◌≡◌, ℕ, ◌+◌, ◌-◌, ◌^◌, ◌<◌, ◌≤◌, min, not, ltb, List, length, drop, fold, get_or, set, is_some, Some, None, Option, ap, ◌∙◌}
use Rattle.std.proofs.lemmas.Bool.{and_from, and_left, and_right, cond-true, cond-false, lt-ltb, le-ltb}
use Rattle.std.proofs.lemmas.List.{drop_all, drop_more}
use Rattle.std.proofs.lemmas.List.Sums.{fold-append}
use Rattle.label.specs.Kind.{Kind}
use Rattle.plan.specs.declared.tables.FreeLink.{FreeLink}
use Rattle.showing.specs.Shown.{open_name, tie, ties}
use Rattle.show.specs.Page.{Page, Numbers, event_written}
use Rattle.show.specs.Steps.{next_to}

-- the next number, and when it is not given
pub next_given : (n : Numbers) (x : ℕ) → x < length n.table → get_or n.table x None ≡ None → next_to n x ≡ record { table = set n.table x (Some n.count); count = min (n.count + 1) (2 ^ 16 - 1) }
unfolding next_to
next_given n x h e = cond-true _ _ _ (and_from _ _ (lt-ltb _ _ h) (ap (λ (o : Option ℕ). not (is_some o)) e))

pub next_high : (n : Numbers) (x : ℕ) → length n.table ≤ x → next_to n x ≡ n
unfolding next_to
next_high n x h = cond-false _ _ _ (and_left (ltb x (length n.table)) _ (le-ltb _ _ h))

pub next_kept : (n : Numbers) (x i : ℕ) → get_or n.table x None ≡ Some i → next_to n x ≡ n
unfolding next_to
next_kept n x i e = cond-false _ _ _ (and_right (ltb x (length n.table)) _ (ap (λ (o : Option ℕ). not (is_some o)) e))

-- a connector, where the link has a later name
pub ties_more : {L : Type 0} (k : Kind L) (s : List FreeLink) (i : ℕ) (d : FreeLink) (p : Page) → i < length s → fold (event_written k) p (ties (drop i s)) ≡ fold (event_written k) (fold (event_written k) p (tie (get_or s i d).name (open_name (get_or s i d).link (drop (i + 1) s)))) (ties (drop (i + 1) s))
unfolding ties
ties_more k s i d p h =
    ap (λ t. fold (event_written k) p (ties t)) (drop_more s i d h)
    ∙ fold-append (event_written k) p (tie (get_or s i d).name (open_name (get_or s i d).link (drop (i + 1) s))) (ties (drop (i + 1) s))

pub ties_end : {L : Type 0} (k : Kind L) (s : List FreeLink) (i : ℕ) (p : Page) → length s ≤ i → fold (event_written k) p (ties (drop i s)) ≡ p
unfolding ties
ties_end k s i p h = ap (λ t. fold (event_written k) p (ties t)) (drop_all i s h)
