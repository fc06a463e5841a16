-- The laws that each rule set proves of itself.
use Rattle.std.specs.Prelude.{◌≡◌, ◌≤◌, List}
use Rattle.std.specs.declared.cmp.Ordering.TheVariants.{Equal}
use Rattle.pq_rules.specs.declared.turn.Turn.TheVariants.{Ask}
use Rattle.pq_rules.specs.declared.turn.Answer.{Answer}
use Rattle.pq_rules.specs.Turns.{Instance, IsLower}
use Rattle.pq_rules.specs.Relations.{In}
use Rattle.pq_rules.specs.Value.{ComesTo}

-- `Laws m reach` is that the rule set at its sources, `m`, keeps the laws; `reach k` lists the keys
-- that the evaluation of `k` may ask
pub record Laws {K P V : Type 0} (m : Instance K P V) (reach : K → List K) : Type 0 where
  -- a rule asks no key of a higher level
  pub no_higher : (k q : K) (p : P) → ComesTo m k (Ask q p) → m.level q ≤ m.level k
  -- each further question lowers what is left
  pub falls : (p : P) (a : Answer K V) (q : K) (r : P) → m.advance p a ≡ Ask q r → IsLower (m.left r) (m.left p)
  -- `reach k` has `k`, and each key that a key of it asks
  pub reaches : (k : K) → In k (reach k)
  pub stays : (k x q : K) (p : P) → In x (reach k) → ComesTo m x (Ask q p) → In q (reach k)
  -- keys that compare as equal are equal
  pub exact : (a b : K) → m.order a b ≡ Equal → a ≡ b
