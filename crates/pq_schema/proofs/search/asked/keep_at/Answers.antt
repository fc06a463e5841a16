use Rattle.std.proofs.Common.{[], get_or, subst, sym}
use Rattle.pq_schema.specs.declared.search.asked.Asked.{Asked}
use Rattle.pq_schema.specs.aux.Asked.{IsAsked}
use Rattle.pq_schema.proofs.Answered.{kept_at}
use Rattle.pq_schema.proofs.search.asked.keep_at.Goals as goal

pub returns-in_ok-keep : goal.returns-in_ok-keep
returns-in_ok-keep c =
    let old = c.index_mut.result.now in
    record {
      kept = λ files leads at are there right. kept_at files leads c.args.asked.now.items c.args.level at c.keep.new.self there
          (c.in_ok-keep.ensures.kept files (get_or leads at [])
          (subst (λ (s : Asked). IsAsked files (get_or leads at []) s) (sym c.index_mut.ensures.value) (are.right c.args.level at old there)) right) are;
    }
