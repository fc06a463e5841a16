-- What the query of a file's checks asks and ends in, by the answers that it reads: the proof of
-- the public law.
use Rattle.std.proofs.Common.{◌≡◌, ℕ, List, [], ◌∷◌, ◌++◌, Option, Some, None, refl, sym, ap, subst, ◌∙◌, append_assoc, append-nil}
use Rattle.std.specs.Prelude.{slice_get, unwrap_or}
use Rattle.pq_rules.specs.declared.turn.Turn.{Turn}
use Rattle.pq_rules.specs.declared.turn.Turn.TheVariants.{Done}
use Rattle.pq_rules.specs.Embedding.{Runs}
use Rattle.pq_rules.proofs.Asked.{asked, ended}
use Rattle.pq_links.specs.declared.links.Import.{Import}
use Rattle.pq_checks.specs.Answers.{CheckWords, AsksStates, AsksNext, AsksLinks, AreChecksBy, if_ring}
use Rattle.pq_checks.specs.Surroundings.{state_of}
use Rattle.pq_checks.specs.aux.Gathering.{checked_of}
use Rattle.pq_checks.specs.aux.Queries.{link_next, staged, placed, link_follows, link_placed, check_starts, check_advances}
use Rattle.pq_checks.specs.declared.queries.checked.CheckPart.{CheckPart}
use Rattle.pq_checks.specs.declared.queries.checked.CheckPart.TheVariants.{ReadItems, ReadImports, ReadLinks, ReadDefs, ReadScope, ReadReferences, ReadState, ReadNext}
use Rattle.pq_checks.specs.declared.errors.fault.Fault.{Fault}
use Rattle.pq_checks.specs.declared.queries.gathered.Known.{Known}
use Rattle.pq_checks.specs.declared.queries.gathered.LinkedFile.{LinkedFile}
use Rattle.pq_checks.specs.declared.around.surroundings.Imported.{Imported}

module _ {K A : Type 0} (w : CheckWords K A) where
  abbrev pub advances : CheckPart → A → Turn K CheckPart (List Fault)
  advances q a = check_advances w q a

  -- `NextIs k is imported es v` is that the questions `es` are those for the links of the imports
  -- `is` up to the first cycle, and that `v` is the checks by the next file that this gives
  abbrev NextIs : Known → List Import → List Imported → List (K × A) → List Fault → Type 0
  NextIs k is imported es v = (next : Option (List ℕ)) × AsksNext w is es next × (v ≡ checked_of k imported next)

  -- an answer for the links of the import `i`: a ring ends the run
  stopped : (k : Known) (i : Import) (is : List Import) (imported : List Imported) (es : List (K × A)) (v : List Fault) (ring : Option (List (List ℕ)))
      → (Runs advances (link_placed k is imported (link_follows w.linked k (Some i) (slice_get is 0) None imported)) es (Done v) → NextIs k is imported es v)
      → Runs advances (link_placed k is imported (link_follows w.linked k (Some i) (slice_get is 0) ring imported)) es (Done v)
      → (next : Option (List ℕ)) × if_ring ring ((es ≡ []) × (next ≡ Some i.file)) (AsksNext w is es next) × (v ≡ checked_of k imported next)
  stopped k i is imported es v (Some ring) on r = let end = ended advances (checked_of k imported (Some i.file)) v es r in (Some i.file, (end.0, refl), end.1)
  stopped k i is imported es v None on r = on r

  next_given : (k : Known) (i : Import) (is : List Import) (imported : List Imported) (es : List (K × A)) (v : List Fault)
      → Runs advances (link_placed k is imported (link_follows w.linked k (Some i) (slice_get is 0) None imported)) es (Done v) → NextIs k is imported es v
  unfolding Runs
  next_given k i [] imported es v r = let end = ended advances (checked_of k imported None) v es r in (None, (end.0, refl), end.1)
  next_given k i (j ∷ is) imported [] v r = cc
  next_given k i (j ∷ is) imported (e ∷ es) v r =
      let asks = r.1 in
      let key : e.0 ≡ w.linked j.file = cc in
      let part : r.0 ≡ ReadNext k (j ∷ is) imported = cc in
      let rest = stopped k j is imported es v (w.ring e.1) (next_given k j is imported es v) (subst (λ (q : CheckPart). Runs advances (advances q e.1) es (Done v)) part r.2) in
      (rest.0, (key, rest.1), rest.2)

  -- the questions for links, after those for states
  links_given : (k : Known) (ring : Option (List (List ℕ))) (is left : List Import) → k.linked.imports ≡ is → (imported : List Imported) (es : List (K × A)) (v : List Fault)
      → Runs advances (placed k left imported (link_next w.linked k ring (slice_get is 0) imported)) es (Done v)
      → (next : Option (List ℕ)) × AsksLinks w ring is es next × (v ≡ checked_of k imported next)
  unfolding Runs
  links_given k None is left same imported es v r = let end = ended advances (checked_of k imported None) v es r in (None, (end.0, refl), end.1)
  links_given k (Some ring) [] left same imported es v r = let end = ended advances (checked_of k imported None) v es r in (None, (end.0, refl), end.1)
  links_given k (Some ring) (i ∷ is) left same imported [] v r = cc
  links_given k (Some ring) (i ∷ is) left same imported (e ∷ es) v r =
      let asks = r.1 in
      let key : e.0 ≡ w.linked i.file = cc in
      let part : r.0 ≡ ReadNext k (i ∷ is) imported = cc in
      let rest = stopped k i is imported es v (w.ring e.1) (next_given k i is imported es v) (subst (λ (q : CheckPart). Runs advances (advances q e.1) es (Done v)) part r.2) in
      (rest.0, (key, rest.1), rest.2)

  -- the questions for states, and those for links
  states_given : (k : Known) (left : List Import) (imported : List Imported) (es : List (K × A)) (v : List Fault)
      → Runs advances (placed k left imported (staged w.linked w.items k (slice_get left 0) imported)) es (Done v)
      → (links : List (K × A)) × (more : List Imported) × (next : Option (List ℕ)) × AsksStates w left es links more
      × AsksLinks w k.linked.ring k.linked.imports links next × (v ≡ checked_of k (imported ++ more) next)
  unfolding Runs
  states_given k [] imported es v r =
      let end = links_given k k.linked.ring k.linked.imports [] refl imported es v r in
      (es, [], end.0, (refl, refl), end.1, end.2 ∙ ap (λ is. checked_of k is end.0) (sym (append-nil imported)))
  states_given k (i ∷ is) imported [] v r = cc
  states_given k (i ∷ is) imported (e ∷ es) v r =
      let asks = r.1 in
      let key : e.0 ≡ w.items i.file = cc in
      let part : r.0 ≡ ReadState k (i ∷ is) imported = cc in
      let new : Imported = record { file = i.file; state = state_of (w.itemed e.1) } in
      let rest = states_given k is (imported ++ new ∷ []) es v (subst (λ (q : CheckPart). Runs advances (advances q e.1) es (Done v)) part r.2) in
      (rest.0, new ∷ rest.1, rest.2, (rest.1, key, refl, rest.3), rest.4, rest.5 ∙ ap (λ is. checked_of k is rest.2) (append_assoc imported (new ∷ []) rest.1))

  pub checks_given : (f : List ℕ) (es : List (K × A)) (v : List Fault) → Runs advances (check_starts w.items f) es (Done v) → AreChecksBy w f es v
  checks_given f es v r =
      let a = asked advances (w.items f) (ReadItems f) es v r in
      let p = w.itemed a.0 in
      let b = asked advances (w.imports f) (ReadImports f p) a.1 v a.3 in
      let is = unwrap_or (w.imported b.0) [] in
      let c = asked advances (w.linked f) (ReadLinks f p is) b.1 v b.3 in
      let l : LinkedFile = record { file = f; items = p; imports = is; ring = w.ring c.0 } in
      let d = asked advances (w.defs f) (ReadDefs l) c.1 v c.3 in
      let s = asked advances (w.scope f) (ReadScope l (w.defined d.0)) d.1 v d.3 in
      let t = asked advances (w.resolved f) (ReadReferences l (w.defined d.0) (w.scoped s.0)) s.1 v s.3 in
      let k : Known = record { linked = l; defs = w.defined d.0; scope = w.scoped s.0; references = w.referred t.0 } in
      let end = states_given k is [] t.1 v t.3 in (
        a.0,
        b.0,
        c.0,
        d.0,
        s.0,
        t.0,
        t.1,
        end.0,
        end.1,
        end.2,
        a.2 ∙ ap (λ xs. (w.items f, a.0) ∷ xs) (b.2 ∙ ap (λ xs. (w.imports f, b.0) ∷ xs) (c.2 ∙ ap (λ xs. (w.linked f, c.0) ∷ xs)
            (d.2 ∙ ap (λ xs. (w.defs f, d.0) ∷ xs) (s.2 ∙ ap (λ xs. (w.scope f, s.0) ∷ xs) t.2)))),
        end.3,
        end.4,
        end.5,
      )
