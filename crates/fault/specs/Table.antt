-- The number and the layer of each refusal.
use Rattle.std.specs.Prelude.{ℕ}
use Rattle.fault.specs.declared.Refusal.{Refusal}
use Rattle.fault.specs.declared.Refusal.TheVariants.{TextTooLong, NoToken, LongName, ForeignLabel, Unexpected, TooDeep, NinthPort, HangName, MisplacedSet, TooManyItems, TooManyRules, SetNumber, RuleName, EmptyLeft, LeftConnector, RestOrContext, DraftRow, Budget, TallyLength, ShortPage, UnsoundPlan, FullTables, FewRows, ShortBuffer}
use Rattle.fault.specs.declared.Layer.{Layer}
use Rattle.fault.specs.declared.Layer.TheVariants as layers

abbrev pub number_of : Refusal → ℕ
number_of TextTooLong = 1
number_of NoToken = 2
number_of LongName = 3
number_of ForeignLabel = 4
number_of Unexpected = 5
number_of TooDeep = 6
number_of NinthPort = 7
number_of HangName = 8
number_of MisplacedSet = 11
number_of TooManyItems = 12
number_of TooManyRules = 13
number_of SetNumber = 14
number_of RuleName = 8
number_of EmptyLeft = 9
number_of LeftConnector = 10
number_of RestOrContext = 11
number_of DraftRow = 17
number_of Budget = 15
number_of TallyLength = 16
number_of ShortPage = 18
number_of UnsoundPlan = 20
number_of FullTables = 21
number_of FewRows = 22
number_of ShortBuffer = 23

abbrev pub layer_of : Refusal → Layer
layer_of TextTooLong = layers.Text
layer_of NoToken = layers.Text
layer_of LongName = layers.Text
layer_of ForeignLabel = layers.Text
layer_of Unexpected = layers.Grammar
layer_of TooDeep = layers.Grammar
layer_of NinthPort = layers.Grammar
layer_of HangName = layers.Grammar
layer_of MisplacedSet = layers.Grammar
layer_of TooManyItems = layers.Grammar
layer_of TooManyRules = layers.Grammar
layer_of SetNumber = layers.Grammar
layer_of RuleName = layers.Book
layer_of EmptyLeft = layers.Book
layer_of LeftConnector = layers.Book
layer_of RestOrContext = layers.Book
layer_of DraftRow = layers.Book
layer_of Budget = layers.Run
layer_of TallyLength = layers.Run
layer_of ShortPage = layers.Run
layer_of UnsoundPlan = layers.Plan
layer_of FullTables = layers.Plan
layer_of FewRows = layers.Plan
layer_of ShortBuffer = layers.Plan
