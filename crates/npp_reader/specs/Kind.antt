-- The names of the kinds of faults.
use Rattle.std.specs.Prelude.{ℕ, List, codes}
use Rattle.npp_reader.specs.declared.kind.LineKind.{LineKind}
use Rattle.npp_reader.specs.declared.kind.LineKind.TheVariants.{Utf8, Header, UnknownWord, FieldCount, BadName, BadNumber, NumberTooLarge, RepeatedNode, UnknownNode, SameEnds, ZeroDemand, TooManyNodes, TooManyArcs, TooManyTolls, TooManyCommodities, NoCommodity}

-- the name that refusals print
abbrev pub kind_word : LineKind → List ℕ
kind_word Utf8 = codes "Utf8"
kind_word Header = codes "Header"
kind_word UnknownWord = codes "UnknownWord"
kind_word FieldCount = codes "FieldCount"
kind_word BadName = codes "BadName"
kind_word BadNumber = codes "BadNumber"
kind_word NumberTooLarge = codes "NumberTooLarge"
kind_word RepeatedNode = codes "RepeatedNode"
kind_word UnknownNode = codes "UnknownNode"
kind_word SameEnds = codes "SameEnds"
kind_word ZeroDemand = codes "ZeroDemand"
kind_word TooManyNodes = codes "TooManyNodes"
kind_word TooManyArcs = codes "TooManyArcs"
kind_word TooManyTolls = codes "TooManyTolls"
kind_word TooManyCommodities = codes "TooManyCommodities"
kind_word NoCommodity = codes "NoCommodity"
