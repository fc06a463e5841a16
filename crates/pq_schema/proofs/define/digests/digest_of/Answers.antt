use Rattle.std.proofs.Common.{◌≡◌, ℕ, zero, suc, ◌+◌, ◌<◌, ◌≤◌, List, [], ◌∷◌, drop, get_or, length, refl, sym, ◌∙◌, ap, arith}
use Rattle.pq_schema.specs.aux.Digests.{digested, digest_from}
use Rattle.pq_schema.specs.declared.define.definitions.Definition.{Definition}
use Rattle.pq_schema.proofs.define.digests.digest_of.Goals as goal

-- one more definition
digest_more : (n : ℕ) (ds : List Definition) (i : ℕ) (d : Definition) → i < length ds
    → digest_from n (drop i ds) ≡ digest_from (digested n (get_or ds i d)) (drop (suc i) ds)
unfolding digest_from
digest_more n [] i d h = absurd (omega arith)
digest_more n (x ∷ xs) zero d h = refl
digest_more n (x ∷ xs) (suc i) d h = digest_more n xs i d (omega arith)

-- no more definitions
digest_end : (n : ℕ) (ds : List Definition) (i : ℕ) → length ds ≤ i → digest_from n (drop i ds) ≡ n
unfolding digest_from
digest_end n [] zero h = refl
digest_end n [] (suc i) h = refl
digest_end n (x ∷ xs) zero h = absurd (omega arith)
digest_end n (x ∷ xs) (suc i) h = digest_end n xs i (omega arith)

pub definitions-preserved : goal.definitions-preserved
definitions-preserved c =
    let ds = c.args.definitions.now in
    let i = c.definitions.i in
    let d = c.index-definitions-i.result in
    let next : i + 1 ≡ suc i = omega arith in
    ap (λ (n : ℕ). digest_from n (drop (i + 1) ds)) (c.digested-digest.ensures.digest ∙ ap (digested c.definitions.digest) c.index-definitions-i.is)
    ∙ (ap (λ (k : ℕ). digest_from (digested c.definitions.digest (get_or ds i d)) (drop k ds)) next
    ∙ (sym (digest_more c.definitions.digest ds i d c.definitions-test.true) ∙ c.definitions.invariant))

pub returns : goal.returns
returns c = record { digest = sym (digest_end c.definitions.digest c.args.definitions.now c.definitions.i (let f = c.definitions-test.false in omega (arith, f))) ∙ c.definitions.invariant }
