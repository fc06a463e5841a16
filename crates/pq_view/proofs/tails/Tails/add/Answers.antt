use Rattle.std.proofs.Common.{sym, ap, ◌∙◌, subst}
use Rattle.std.specs.Prelude.{◌||◌, bytes_eq, reverse}
use Rattle.std.specs.List.{list_any}
use Rattle.pq_view.specs.aux.Tails.{AreReversed, texts_of}
use Rattle.pq_view.proofs.Endings.{reversed_more, texts_more}
use Rattle.pq_view.proofs.tails.Tails.add.Goals as goal

pub invariant_of-self-2 : goal.invariant_of-self-2
invariant_of-self-2 c =
    subst AreReversed (sym c.in_ok-insert.ensures.entries)
    (reversed_more c.self.inside.paths.entries c.in_ok-bytes.bytes.items c.args.path c.self.invariant (c.in_ok-bytes.ensures.reversed ∙ ap reverse c.as_str.ensures.same))

pub returns : goal.returns
returns c = record {
  added = λ q.
      ap (λ es. list_any (bytes_eq q) (texts_of es)) c.in_ok-insert.ensures.entries
      ∙ texts_more q c.self.inside.paths.entries c.in_ok-bytes.bytes.items c.args.path c.self.invariant (c.in_ok-bytes.ensures.reversed ∙ ap reverse c.as_str.ensures.same)
      ∙ ap (λ ts. bytes_eq q c.args.path || list_any (bytes_eq q) ts) c.self.view_is;
}
