-- The command that each line of a script is.
use Rattle.std.specs.Prelude.{ℕ, Bool, true, cond, List, [], ◌∷◌, Some, None, codes, Option, ◌==◌, nat_lt}
use Rattle.std.specs.Str.{bytes_eq}
use Rattle.label.specs.declared.named.KindName.{KindName}
use Rattle.label.specs.declared.named.KindName.TheVariants.{Words, Numbers}
use Rattle.bigvosk.specs.declared.line.OrderName.{OrderName}
use Rattle.bigvosk.specs.declared.line.OrderName.TheVariants.{Written, Shuffled}
use Rattle.bigvosk.specs.declared.line.Command.{Command}
use Rattle.bigvosk.specs.declared.line.Command.TheVariants.{Pass, Kind, Read, Places, Unknown}
use Rattle.bigvosk.specs.Cuts.{before, past}
use Rattle.bigvosk.specs.Numbers.{number_up_to}

-- a command, with its text as bytes
pub data Told : Type 0 where
  pass_over : Told
  set_kind : KindName → Told
  read_text : List ℕ → Told
  list_places : ℕ → OrderName → Told
  not_known : Told

abbrev pub told : Command → Told
told Pass = pass_over
told (Kind k) = set_kind k
told (Read text) = read_text text.now
told (Places n order) = list_places n order
told Unknown = not_known

abbrev pub space : ℕ
space = 32

-- a line without any byte, and one that begins with #
abbrev pub passed_over : List ℕ → Bool
passed_over [] = true
passed_over (b ∷ bs) = b == 35

-- `kind` takes one of two names
abbrev pub kind_of : List ℕ → Told
kind_of text =
    cond (bytes_eq text (codes "words")) (set_kind Words)
    (cond (bytes_eq text (codes "numbers")) (set_kind Numbers)
    not_known)

-- the order of a seed, if there is one
abbrev pub seeded : Option ℕ → Option OrderName
seeded (Some seed) = Some (Shuffled seed)
seeded None = None

-- `written`, or `shuffled` and a seed below 2^32
unfoldable pub order_of : List ℕ → Option OrderName
order_of text =
    cond (bytes_eq text (codes "written")) (Some Written)
    (cond (bytes_eq (before space text) (codes "shuffled")) (seeded (number_up_to 4294967295 (past space text)))
    None)

-- a number of things that is not 0, and an order
abbrev pub listed : Option ℕ → Option OrderName → Told
listed (Some n) (Some order) = cond (nat_lt 0 n) (list_places n order) not_known
listed (Some n) None = not_known
listed None order = not_known

-- `places` takes 1 to 4096 things and an order
unfoldable pub places_of : List ℕ → Told
places_of text = listed (number_up_to 4096 (before space text)) (order_of (past space text))

-- a command word, and the text past the space that ends it
abbrev pub by_word : List ℕ → List ℕ → Told
by_word word text =
    cond (bytes_eq word (codes "kind")) (kind_of text)
    (cond (bytes_eq word (codes "read")) (read_text text)
    (cond (bytes_eq word (codes "places")) (places_of text)
    not_known))

abbrev pub command_of : List ℕ → Told
command_of line = cond (passed_over line) pass_over (by_word (before space line) (past space line))
