-- A function fails as the function did that it called with `?`.
use Rattle.std.proofs.Common.{◌≡◌, Result, Ok, Err, sym, subst}
use Rattle.std.specs.Prelude.{IfErr, IsErrAnd}
use Rattle.pq_syntax.specs.declared.failure.Failure.{Failure}

-- what holds of the callee's failure holds of what the exit of a `?` returns
pub fails_on : {T : Type 0} (P : Failure → Type 0) (e : Failure) (answer : Result T Failure) → IsErrAnd answer (λ y. y ≡ e) → P e → IfErr answer P
fails_on P e (Ok x) h f = absurd h
fails_on P e (Err y) h f = subst P (sym h) f
