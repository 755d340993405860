-- What `{}` prints of a choice, of what is missing and of what stands. Assumes nothing.
use Rattle.std.specs.Prelude.{ℕ, List, ◌++◌, None, Option, Some, codes, decimal}
use Rattle.pegs.specs.declared.peg.FixedLevel.{FixedLevel}
use Rattle.pegs.specs.declared.peg.Peg.{Peg}
use Rattle.desk.specs.declared.answer.Missing.{Missing}
use Rattle.desk.specs.declared.answer.Missing.TheVariants as missing
use Rattle.desk.specs.declared.answer.Stands.{Stands}
use Rattle.desk.specs.declared.answer.Stands.TheVariants as stands
use Rattle.desk.specs.declared.call.Choice.{Choice}
use Rattle.desk.specs.declared.call.Choice.TheVariants as choice

-- the codes that a choice names, in their order
abbrev pub choice_words : Choice → List ℕ
choice_words choice.Irc = codes "the IRC code"
choice_words choice.Table = codes "the length table"
choice_words choice.IrcThenTable = codes "the IRC code, then the length table"
choice_words choice.TableThenIrc = codes "the length table, then the IRC code"

-- what is missing, and how to make it
abbrev pub missing_words : Missing → List ℕ
missing_words missing.Irc = codes "no IRC code is made yet: make it by irc"
missing_words missing.Table = codes "no length table is made yet: make it by table"
missing_words missing.Code = codes "no code is in use yet: name it by use"

-- where a peg stands, or that none does
abbrev pub peg_words : Option Peg → List ℕ
peg_words None = codes "is absent"
peg_words (Some p) = codes "stands at station " ++ decimal p.station ++ codes ", level " ++ decimal p.level

-- what a fixed level asks, or that none does
abbrev pub fixed_words : Option FixedLevel → List ℕ
fixed_words None = codes "is absent"
fixed_words (Some x) = codes "asks " ++ decimal x.low ++ codes " to " ++ decimal x.high ++ codes " at station " ++ decimal x.station

-- what stands under a number
abbrev pub stands_words : Stands → List ℕ
stands_words (stands.Peg n held) = codes "peg " ++ decimal n ++ codes " " ++ peg_words held
stands_words (stands.Fixed n held) = codes "fixed level " ++ decimal n ++ codes " " ++ fixed_words held
