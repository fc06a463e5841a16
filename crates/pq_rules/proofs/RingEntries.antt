-- The entries of a ring's keys, as the loop over the popped frames adds them.
use Rattle.std.proofs.Common.{◌≡◌, List, [], ◌∷◌, ◌++◌, sym, ap, subst, ◌∙◌, append-nil, append_assoc, inl, inr}
use Rattle.pq_rules.specs.declared.turn.Answer.TheVariants.{Cycle}
use Rattle.pq_rules.specs.declared.scratch.Frame.{Frame}
use Rattle.pq_rules.specs.aux.AnswerTable.{Finished, Covers, done_keys, entry}
use Rattle.pq_rules.specs.Relations.{In}
use Rattle.pq_rules.specs.aux.Evaluator.{ring_entries}
use Rattle.pq_rules.specs.aux.Lists.{in_append, in_append_left, in_append_right}
use Rattle.pq_rules.proofs.ListLemmas.{done_keys_append}

pub covers_same : {K V : Type 0} (fs gs : List (Finished K V)) → fs ≡ gs → Covers fs gs
covers_same {K} {V} fs gs e = record {
  from = λ f i. subst (λ (x : List (Finished K V)). In f x) (sym e) i;
  keys = λ k i. subst (λ (x : List (Finished K V)). In k (done_keys x)) e i;
}

covers_on : {K V : Type 0} (before middle after es : List (Finished K V)) → Covers before middle → Covers (middle ++ es) after
    → Covers (before ++ es) after
covers_on {K} {V} before middle after es c d = record {
  from = λ f i. elim (in_append f middle es (d.from f i)) [
    | inl j ↦ in_append_left f before es (c.from f j)
    | inr j ↦ in_append_right f before es j
  ];
  keys = λ k i. d.keys k (subst (λ (ks : List K). In k ks) (sym (done_keys_append middle es))
      (elim (in_append k (done_keys before) (done_keys es) (subst (λ (ks : List K). In k ks) (done_keys_append before es) i)) [
        | inl j ↦ in_append_left k (done_keys middle) (done_keys es) (c.keys k j)
        | inr j ↦ in_append_right k (done_keys middle) (done_keys es) j
      ]));
}

-- the stack as it was is what is left and what was popped, and the entries of that were added
abbrev pub Far : {K P V : Type 0} → List K → List (Frame K P) → List (Finished K V) → List (Frame K P) → List (Finished K V) → Type 0
Far {K} {P} {V} ring stack0 done0 stack done =
    (popped : List (Frame K P)) × (stack0 ≡ stack ++ popped) × Covers (done0 ++ ring_entries ring popped) done

pub far_start : {K P V : Type 0} (ring : List K) (stack : List (Frame K P)) (done : List (Finished K V)) → Far ring stack done stack done
unfolding ring_entries
far_start ring stack done = ([], sym (append-nil stack), covers_same (done ++ []) done (append-nil done))

pub far_on : {K P V : Type 0} (ring : List K) (stack0 : List (Frame K P)) (done0 : List (Finished K V))
    (stack rest : List (Frame K P)) (done after : List (Finished K V)) (f : Frame K P)
    → Far ring stack0 done0 stack done → stack ≡ rest ++ f ∷ []
    → Covers (done ++ entry f.key (Cycle ring) ∷ []) after
    → Far ring stack0 done0 rest after
unfolding ring_entries
far_on {K} {P} {V} ring stack0 done0 stack rest done after f far s a = (
  f ∷ far.0,
  far.1 ∙ ap (λ (x : List (Frame K P)). x ++ far.0) s ∙ append_assoc rest (f ∷ []) far.0,
  subst (λ (x : List (Finished K V)). Covers x after) (append_assoc done0 (ring_entries ring far.0) (entry f.key (Cycle ring) ∷ []))
      (covers_on (done0 ++ ring_entries ring far.0) done after (entry f.key (Cycle ring) ∷ []) far.2 a),
)
