-- A list that is read item by item: where its loop begins, goes on, ends and fails.
use Rattle.std.proofs.Common.{◌≡◌, ℕ, Bool, true, false, List, [], ◌++◌, refl, sym, ◌∙◌, append_assoc}
use Rattle.std.proofs.lemmas.List.{append-nil}
use Rattle.pq_syntax.specs.Rule.{Rule, Parse}
use Rattle.pq_syntax.specs.Rule.Rule.{Star}
use Rattle.pq_syntax.specs.Rule.Parse.{Nil, Pair}
use Rattle.pq_syntax.specs.aux.Takes.{Takes, Stops, starts_at}
use Rattle.pq_syntax.specs.aux.Loop.{Loop}
use Rattle.pq_syntax.specs.Parts.{list_of}
use Rattle.pq_syntax.proofs.Rules.{takes_more, takes_stop, stops_item, stops_more}

module _ {A W X : Type 0} {accepts : A → W → Bool} {r : Rule A} {view : Parse W → List X} where
  pub loop_begins : (start : List W) → Loop accepts r view start start []
  loop_begins start = record { takes = λ left p t. (p, t, refl); stops = λ n s. s }

  pub loop_goes : {start rest left : List W} {sofar : List X} {p : Parse W}
      → Loop accepts r view start rest sofar
      → starts_at accepts r rest ≡ true
      → Takes accepts r rest left p
      → Loop accepts r view start left (sofar ++ view p)
  loop_goes {start} {rest} {left} {sofar} {p} l h t = record {
    takes = λ left' q s. let u = l.takes left' (Pair p q) (takes_more h t s) in (u.0, u.1, u.2 ∙ sym (append_assoc sofar (view p) (list_of view q)));
    stops = λ n s. l.stops n (stops_more h t s);
  }

  pub loop_ends : {start rest : List W} {sofar : List X}
      → Loop accepts r view start rest sofar
      → starts_at accepts r rest ≡ false
      → (q : Parse W) × Takes accepts (Star r) start rest q × (sofar ≡ list_of view q)
  loop_ends {start} {rest} {sofar} l h = let u = l.takes rest Nil (takes_stop h) in (u.0, u.1, sym (u.2 ∙ append-nil sofar))

  pub loop_fails : {start rest : List W} {sofar : List X} {n : ℕ}
      → Loop accepts r view start rest sofar
      → starts_at accepts r rest ≡ true
      → Stops accepts r rest n
      → Stops accepts (Star r) start n
  loop_fails {n = n} l h s = l.stops n (stops_item h s)
