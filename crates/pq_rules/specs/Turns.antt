-- What a rule set computes, as functions of its keys and parts, and a rule set at given sources.
--
-- A rule is a machine of turns: `start` gives a key's first turn, `advance` the turn after an
-- answer. A turn asks for the answer of a key, or is done with a value.
use Rattle.std.specs.Prelude.{ℕ, ◌≡◌, ◌<◌, ◌⊎◌, List, Option, Some, None}
use Rattle.std.specs.declared.cmp.Ordering.{Ordering}
use Rattle.pq_inputs.specs.Sources.{Sources, file_in}
use Rattle.pq_rules.specs.declared.turn.Turn.{Turn}
use Rattle.pq_rules.specs.declared.turn.Answer.{Answer}

-- `Machine K P V` is a rule set over keys `K`, parts `P` and values `V`, by its functions: the
-- level of a key, the file of an input key, the value of an input by its file's text, the two
-- turns, and the pair that each further question lowers
pub record Machine (K P V : Type 0) : Type 0 where
  pub level : K → ℕ
  pub file : K → Option (List ℕ)
  pub text : Option (List ℕ) → V
  pub start : K → Turn K P V
  pub advance : P → Answer K V → Turn K P V
  pub left : P → ℕ × ℕ

-- `text_at s file` is the text in the sources `s` of the file, if a file is named and has one
abbrev pub text_at : Sources → Option (List ℕ) → Option (List ℕ)
text_at s None = None
text_at s (Some name) = (file_in s name).text

-- `Instance K P V` is a rule set at given sources: each input has its value, and keys have an order
pub record Instance (K P V : Type 0) : Type 0 where
  pub level : K → ℕ
  pub input : K → V
  pub start : K → Turn K P V
  pub advance : P → Answer K V → Turn K P V
  pub left : P → ℕ × ℕ
  pub order : K → K → Ordering

-- `over order m s` is the rule set `m` at the sources `s`, its keys ordered by `order`
abbrev pub over : {K P V : Type 0} → (K → K → Ordering) → Machine K P V → Sources → Instance K P V
over order m s = record {
  level = m.level;
  input = λ k. m.text (text_at s (m.file k));
  start = m.start;
  advance = m.advance;
  left = m.left;
  order = order;
}

-- `IsLower a b` is that the pair `a` is less than `b` in lexicographic order
abbrev pub IsLower : ℕ × ℕ → ℕ × ℕ → Type 0
IsLower a b = (a.0 < b.0) ⊎ ((a.0 ≡ b.0) × (a.1 < b.1))
