-- The kind of label that has words alone.
use Rattle.std.specs.Prelude.{ℕ, List, None, Option, nat_lt}
use Rattle.label.specs.declared.form.Form.{Form}
use Rattle.label.specs.declared.form.Form.TheVariants.{Word, Number}
use Rattle.label.specs.declared.sure.SureWord.{SureWord}
use Rattle.label.specs.declared.word.WordLabel.{WordLabel}
use Rattle.label.specs.Kind.{Kind}
use Rattle.std.specs.Option.{option_map}
use Rattle.label.specs.Tokens.{read_word, word_label, word_token}

abbrev pub the_word : ℕ → WordLabel
the_word n = record { 0 = n }

abbrev pub word_read : Form → List ℕ → Option WordLabel
word_read Word bs = option_map the_word (read_word bs)
word_read Number bs = None

-- numeric order, which is byte order of the words
abbrev pub word_kind : Kind WordLabel
word_kind = record {
  mine = λ a. word_label a.0;
  read = word_read;
  lower = λ a b. nat_lt a.0 b.0;
  token = λ a. word_token a.0;
}

abbrev pub word_raw : SureWord → WordLabel
word_raw s = the_word s.packed
