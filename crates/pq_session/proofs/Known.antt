-- Known bytes, over several calls, and counts of failed calls.
use Rattle.std.proofs.Common.{◌≡◌, ℕ, List, [], ◌++◌, Option, Some, None, refl, sym, ◌∙◌, ap, append_assoc, ◌-◌, length, take, drop}
use Rattle.std.proofs.lemmas.List.{append-nil, take_rest, take-append-drop}
use Rattle.std.proofs.Common.{◌+◌, ◌<◌, arith}
use Rattle.std.proofs.lemmas.Bool.Decides.{nat_tests}
use Rattle.std.specs.Prelude.{◌^◌, if◌then◌else◌, ◌==◌}
use Rattle.std.proofs.Math.Nat.{min-eq_left}
use Rattle.pq_session.specs.Counts.{one_more}
use Rattle.std.specs.Io.KnownBytes.{Appends, Keeps, Consumes}

pub appends_none : (a : Option (List ℕ)) → Appends a a []
appends_none None = tt
appends_none (Some xs) = sym (append-nil xs)

pub appends_more : (a b c : Option (List ℕ)) (xs ys : List ℕ) → Appends a b xs → Appends b c ys → Appends a c (xs ++ ys)
appends_more None b c xs ys h k = tt
appends_more (Some a) None c xs ys h k = absurd h
appends_more (Some a) (Some b) None xs ys h k = absurd k
appends_more (Some a) (Some b) (Some c) xs ys h k = k ∙ ap (λ (s : List ℕ). s ++ ys) h ∙ append_assoc a xs ys

pub appends_kept : (a b c : Option (List ℕ)) (xs : List ℕ) → Appends a b xs → Keeps b c → Appends a c xs
appends_kept None b c xs h k = tt
appends_kept (Some a) None c xs h k = absurd h
appends_kept (Some a) (Some b) None xs h k = absurd k
appends_kept (Some a) (Some b) (Some c) xs h k = k ∙ h

pub consumes_none : (a : Option (List ℕ)) → Consumes a a []
consumes_none None = tt
consumes_none (Some xs) = refl

pub consumes_more : (a b c : Option (List ℕ)) (xs ys : List ℕ) → Consumes a b xs → Consumes b c ys → Consumes a c (xs ++ ys)
consumes_more None b c xs ys h k = tt
consumes_more (Some a) None c xs ys h k = absurd h
consumes_more (Some a) (Some b) None xs ys h k = absurd k
consumes_more (Some a) (Some b) (Some c) xs ys h k = h ∙ ap (λ (s : List ℕ). xs ++ s) k ∙ sym (append_assoc xs ys c)

pub consumes_kept : (a b c : Option (List ℕ)) (xs : List ℕ) → Consumes a b xs → Keeps b c → Consumes a c xs
consumes_kept None b c xs h k = tt
consumes_kept (Some a) None c xs h k = absurd h
consumes_kept (Some a) (Some b) None xs h k = absurd k
consumes_kept (Some a) (Some b) (Some c) xs h k = h ∙ ap (λ (s : List ℕ). xs ++ s) (sym k)

pub sent_more : (all done rest : List ℕ) (count : ℕ) → all ≡ done ++ rest → all ≡ (done ++ take count rest) ++ take (length rest - count) (drop count rest)
sent_more all done rest count e = rw (take_rest rest count, append_assoc done (take count rest) (drop count rest), take-append-drop count rest) e

pub one_failed : (n : ℕ) → n < 2 ^ 63 → one_more n ≡ n + 1
one_failed n h = min-eq_left (omega arith)

pub none_failed : (n count : ℕ) → 0 < count → (if count == 0 then one_more n else n) ≡ n
none_failed n count h = grind (arith, nat_tests)
