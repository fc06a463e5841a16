-- One query of a rule set, by its own functions: what its runs are, and how its keys, parts and
-- values are those of the rule set.
use Rattle.std.specs.Prelude.{ℕ, ◌≡◌, List, [], ◌∷◌}
use Rattle.pq_rules.specs.declared.turn.Turn.{Turn}
use Rattle.pq_rules.specs.declared.turn.Turn.TheVariants.{Ask, Done}
use Rattle.pq_rules.specs.declared.turn.Answer.{Answer}
use Rattle.pq_rules.specs.Turns.{Instance}

-- `embedded part value t` is the turn `t` of a query as a turn of its rule set, where `part` and
-- `value` make parts and values of the rule set
abbrev pub embedded : {K Q P W V : Type 0} → (Q → P) → (W → V) → Turn K Q W → Turn K P V
embedded part value (Ask k q) = Ask k (part q)
embedded part value (Done w) = Done (value w)

-- `Runs advances t es u` is that a query whose turn after an answer is `advances` comes from the
-- turn `t` to the turn `u` by `es`, the questions that it asks, each with its answer
unfoldable pub Runs : {K Q W A : Type 0} → (Q → A → Turn K Q W) → Turn K Q W → List (K × A) → Turn K Q W → Type 0
Runs advances t [] u = t ≡ u
Runs {Q = Q} advances t (e ∷ es) u = (q : Q) × (t ≡ Ask e.0 q) × Runs advances (advances q e.1) es u

-- `Embeds m key part value level starts advances` is that the query with the functions `starts` and
-- `advances` is one of the rule set `m`. Its keys are `key x`, of the level `level`, its parts
-- `part q` and its values `value w`.
pub record Embeds {X K P V Q W : Type 0} (m : Instance K P V) (key : X → K) (part : Q → P) (value : W → V)
    (level : ℕ) (starts : X → Turn K Q W) (advances : Q → Answer K V → Turn K Q W) : Type 0 where
  pub level_is : (x : X) → m.level (key x) ≡ level
  pub start_is : (x : X) → m.start (key x) ≡ embedded part value (starts x)
  pub advance_is : (q : Q) (a : Answer K V) → m.advance (part q) a ≡ embedded part value (advances q a)
