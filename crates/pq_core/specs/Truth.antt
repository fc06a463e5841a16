-- What a reply says of its answer: it is that of the key of its request, from scratch, over the
-- sources of its stamp.
use Rattle.std.specs.Prelude.{ℕ, ◌≡◌}
use Rattle.std.specs.declared.cmp.Ordering.{Ordering}
use Rattle.pq_rules.specs.declared.turn.Answer.{Answer}
use Rattle.pq_rules.specs.Turns.{Machine, over}
use Rattle.pq_rules.specs.Value.{Means}
use Rattle.pq_core.specs.Points.{Point}
use Rattle.pq_core.specs.Replies.{ReplyView}
use Rattle.pq_core.specs.declared.values.request.Want.{Want}
use Rattle.pq_core.specs.declared.values.request.Want.TheVariants.{Demand}
use Rattle.pq_core.specs.declared.values.outcome.Outcome.{Outcome}
use Rattle.pq_core.specs.declared.values.outcome.Outcome.TheVariants.{Answered, Plain, Cancelled, Starved, Withdrawn}

-- `AnswersAt order machine at want answer` is that `want` is for a key, and `answer` that of the key
-- at the sources of `at`
pub record AnswersAt {K P V : Type 0} (order : K → K → Ordering) (machine : Machine K P V) (at : Point) (want : Want K) (answer : Answer K V) : Type 0 where
  pub key : K
  pub demanded : want ≡ Demand key
  pub means_so : Means (over order machine at.files) key answer

-- `IsTold order machine point revision want outcome` is that `outcome`, if it has an answer, has the
-- right one at the sources of its stamp, which is of `revision`
abbrev pub IsTold : {K P V M : Type 0} → (K → K → Ordering) → Machine K P V → (M → Point) → ℕ → Want K → Outcome K V M → Type 0
IsTold order machine point revision want (Answered answer stamp) =
    (revision ≡ (point stamp).revision) × AnswersAt order machine (point stamp) want answer
IsTold order machine point revision want Plain = Unit {0}
IsTold order machine point revision want (Cancelled started seen) = Unit {0}
IsTold order machine point revision want Starved = Unit {0}
IsTold order machine point revision want Withdrawn = Unit {0}

-- `IsTrueReply order machine point reply` is that of the outcome of `reply`, by the rules `machine` of
-- some rule set of the type `R`
pub record IsTrueReply {R K P V M : Type 0} (order : K → K → Ordering) (machine : R → Machine K P V) (point : M → Point) (reply : ReplyView K V M) : Type 0 where
  pub rules : R
  pub told : IsTold order (machine rules) point reply.revision reply.request.want reply.outcome
