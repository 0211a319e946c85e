-- What is printed of a fault.
use Rattle.std.specs.Prelude.{ℕ, List, ◌++◌, codes, decimal}
use Rattle.fault.specs.declared.Layer.{Layer}
use Rattle.fault.specs.declared.Layer.TheVariants.{Text, Grammar, Book, Plan, Run}
use Rattle.fault.specs.declared.Fault.{Fault}
use Rattle.fault.specs.Table.{number_of, layer_of}

abbrev pub layer_name : Layer → List ℕ
layer_name Text = codes "text"
layer_name Grammar = codes "grammar"
layer_name Book = codes "book"
layer_name Plan = codes "plan"
layer_name Run = codes "run"

-- a fault's number, layer and place
abbrev pub message : Fault → List ℕ
message f =
    codes "refused " ++ (decimal (number_of f.refusal) ++ (codes " " ++ (layer_name (layer_of f.refusal) ++ (codes " at " ++ decimal f.place))))
