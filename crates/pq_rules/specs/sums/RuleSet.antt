-- The example of a rule set, `sums`: inputs, sums and totals of files, put together from the two
-- queries.
use Rattle.std.specs.Prelude.{ℕ, List, [], ◌∷◌, ◌++◌, map, Option, Some, None}
use Rattle.pq_inputs.specs.Sources.{Sources}
use Rattle.pq_rules.specs.declared.turn.Turn.{Turn}
use Rattle.pq_rules.specs.declared.turn.Turn.TheVariants.{Ask, Done}
use Rattle.pq_rules.specs.declared.turn.Answer.{Answer}
use Rattle.pq_rules.specs.declared.turn.Answer.TheVariants.{Value, Cycle}
use Rattle.pq_rules.specs.declared.sums.queries.SumPart.{SumPart}
use Rattle.pq_rules.specs.declared.sums.SumsKey.{SumsKey}
use Rattle.pq_rules.specs.declared.sums.SumsKey.TheVariants.{Input, Sum, Total}
use Rattle.pq_rules.specs.declared.sums.SumsValue.{SumsValue}
use Rattle.pq_rules.specs.declared.sums.SumsValue.TheVariants.{Source, Number}
use Rattle.pq_rules.specs.declared.sums.SumsPart.{SumsPart}
use Rattle.pq_rules.specs.declared.sums.SumsPart.TheVariants.{Adding, Taking}
use Rattle.pq_rules.specs.Turns.{Machine}
use Rattle.pq_rules.specs.aux.Codes.{text_code}
use Rattle.pq_rules.specs.sums.Names.{names_of}
use Rattle.pq_rules.specs.sums.Queries.{sum_level, total_level, sum_starts, sum_advances, sum_left, total_starts, total_advances}

-- `text_read a` is the text of a file that the answer `a` holds
abbrev pub text_read : Answer SumsKey SumsValue → Option (List ℕ)
text_read (Value (Source text)) = text
text_read (Value (Number n)) = None
text_read (Cycle ring) = None

-- `number_read a` is the number that the answer `a` holds
abbrev pub number_read : Answer SumsKey SumsValue → Option ℕ
number_read (Value (Source text)) = None
number_read (Value (Number n)) = Some n
number_read (Cycle ring) = None

-- `sum_turn t` is the turn `t` of the sum query as a turn of the rule set
abbrev pub sum_turn : Turn SumsKey SumPart ℕ → Turn SumsKey SumsPart SumsValue
sum_turn (Ask key part) = Ask key (Adding part)
sum_turn (Done n) = Done (Number n)

-- `total_turn t` is the turn `t` of the total query as a turn of the rule set
abbrev pub total_turn : Turn SumsKey (Unit {0}) ℕ → Turn SumsKey SumsPart SumsValue
total_turn (Ask key part) = Ask key Taking
total_turn (Done n) = Done (Number n)

-- `sums_level k` is the level of the key `k`
abbrev pub sums_level : SumsKey → ℕ
sums_level (Input name) = 0
sums_level (Sum name) = sum_level
sums_level (Total name) = total_level

-- `sums_file k` is the file of the input key `k`
abbrev pub sums_file : SumsKey → Option (List ℕ)
sums_file (Input name) = Some name
sums_file (Sum name) = None
sums_file (Total name) = None

-- `sums_start k` is the first turn of the key `k`; an input has no rule, so its turn is not asked
-- for
abbrev pub sums_start : SumsKey → Turn SumsKey SumsPart SumsValue
sums_start (Input name) = Done (Source None)
sums_start (Sum name) = sum_turn (sum_starts (λ n. Input n) name)
sums_start (Total name) = total_turn (total_starts (λ n. Sum n) name)

-- `sums_advance part a` is the turn that follows `part` by the answer `a`
abbrev pub sums_advance : SumsPart → Answer SumsKey SumsValue → Turn SumsKey SumsPart SumsValue
sums_advance (Adding part) a = sum_turn (sum_advances (λ n. Sum n) (text_read a) (number_read a) part)
sums_advance Taking a = total_turn (total_advances (number_read a))

-- `sums_left part` is what is left to ask at `part`
abbrev pub sums_left : SumsPart → ℕ × ℕ
sums_left (Adding part) = sum_left part
sums_left Taking = (0, 0)

-- `sums` is the rule set
abbrev pub sums : Machine SumsKey SumsPart SumsValue
sums = record {
  level = sums_level;
  file = sums_file;
  text = λ text. Source text;
  start = sums_start;
  advance = sums_advance;
  left = sums_left;
}

-- `all_names files` is the names in the texts of all files
abbrev pub all_names : Sources → List (List ℕ)
all_names [] = []
all_names (e ∷ es) = names_of e.1.text ++ all_names es

-- `own_name k` is the file of the key `k`
abbrev pub own_name : SumsKey → List ℕ
own_name (Input name) = name
own_name (Sum name) = name
own_name (Total name) = name

-- `sums_reach files k` is the keys that the evaluation of `k` may ask: `k`, and the texts and sums of
-- its own file and of all names in texts
abbrev pub sums_reach : Sources → SumsKey → List SumsKey
sums_reach files k =
    k ∷ (map (λ n. Input n) (own_name k ∷ all_names files) ++ map (λ n. Sum n) (own_name k ∷ all_names files))

-- `sums_code key` is the code of the name in `key`
abbrev pub sums_code : SumsKey → ℕ
sums_code (Input name) = text_code name
sums_code (Sum name) = text_code name
sums_code (Total name) = text_code name
