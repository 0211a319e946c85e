-- What a kind of label is, and what holds of each.
use Rattle.std.specs.Prelude.{◌≡◌, ℕ, ◌≤◌, Bool, true, false, cond, List, length, Some, None, Option}
use Rattle.std.specs.declared.cmp.Ordering.TheVariants.{Less, Equal, Greater}
use Rattle.std.specs.declared.cmp.Ordering.{Ordering}
use Rattle.text.specs.Shapes.{is_word, is_number}
use Rattle.label.specs.Written.{token_limit}
use Rattle.label.specs.declared.form.Form.{Form}
use Rattle.label.specs.declared.form.Form.TheVariants.{Word, Number}

pub record Kind (L : Type 0) : Type 0 where
  -- whether a value is a label
  pub mine : L → Bool
  -- the label that a token of a class and of these bytes means, if any
  pub read : Form → List ℕ → Option L
  -- whether a label is lower than another
  pub lower : L → L → Bool
  -- the class and the bytes of a label's token; none for what is no label
  pub token : L → Option (Form × List ℕ)

-- whether bytes are a token of a class
abbrev pub proper : Form → List ℕ → Bool
proper Word bs = is_word bs
proper Number bs = is_number bs

-- the token of a label: the bytes are of its class and few, and mean just that label
pub record Shown {L : Type 0} (k : Kind L) (a : L) : Type 0 where
  pub form : Form
  pub bytes : List ℕ
  pub is : k.token a ≡ Some (form, bytes)
  pub whole : proper form bytes ≡ true
  pub short : length bytes ≤ token_limit
  pub back : k.read form bytes ≡ Some a

-- the laws of a kind
pub record Lawful {L : Type 0} (k : Kind L) : Type 0 where
  -- of two labels exactly one is lower, or they are the same
  pub not_itself : (a : L) → k.mine a ≡ true → k.lower a a ≡ false
  pub one_way : (a b : L) → k.mine a ≡ true → k.mine b ≡ true → k.lower a b ≡ true → k.lower b a ≡ false
  pub same : (a b : L) → k.mine a ≡ true → k.mine b ≡ true → k.lower a b ≡ false → k.lower b a ≡ false → a ≡ b
  pub onward : (a b c : L) → k.mine a ≡ true → k.mine b ≡ true → k.mine c ≡ true → k.lower a b ≡ true → k.lower b c ≡ true → k.lower a c ≡ true
  -- each label has a token, and nothing else has
  pub shown : (a : L) → k.mine a ≡ true → Shown k a
  pub unshown : (a : L) → k.mine a ≡ false → k.token a ≡ None
  -- what is read is a label
  pub read_mine : (f : Form) (bs : List ℕ) (a : L) → k.read f bs ≡ Some a → k.mine a ≡ true

-- values that are labels for certain, at most one for each label
pub record Sound {L S : Type 0} (k : Kind L) (raw : S → L) : Type 0 where
  pub sure : (s : S) → k.mine (raw s) ≡ true
  pub apart : (s t : S) → raw s ≡ raw t → s ≡ t

abbrev pub compared : {L : Type 0} → (L → L → Bool) → L → L → Ordering
compared lower a b = cond (lower a b) Less (cond (lower b a) Greater Equal)

abbrev pub admitted : {L : Type 0} → (L → Bool) → L → Option L
admitted mine a = cond (mine a) (Some a) None
