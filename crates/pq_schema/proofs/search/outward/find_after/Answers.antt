use Rattle.std.proofs.Common.{sym, ap, ◌∙◌}
use Rattle.pq_schema.specs.aux.Grouping.{around}
use Rattle.pq_schema.specs.aux.Hits.{meaning_at}
use Rattle.pq_schema.specs.aux.Outward.{of_package}
use Rattle.pq_schema.proofs.OpenedPackages.{some_name}
use Rattle.pq_schema.proofs.OutwardSearch.{defined_in, head_both, head_found, undefined_in}
use Rattle.pq_schema.proofs.search.outward.find_after.Goals as goal

pub definition_along-requires : goal.definition_along-requires
definition_along-requires c =
    let lead = c.as_str-lead.result.now in
    let head = c.in_ok-head.head.now in
    let name = c.args.name.now in
    let full = c.after-full.result in
    let is_lead = c.as_str-lead.ensures.same ∙ c.lead.ensures.lead in
    record {
      near = c.in_ok-all.ensures.all (around full);
      files = c.requires.files;
      front = head_both c.args.along.now.root lead head c.in_ok-others.others.now name full c.saturating_sub-start.result
          is_lead c.saturating_sub-start.ensures c.in_ok-head.ensures.front c.after-full.ensures.pieces;
    }

pub returns-in-Some : goal.returns-in-Some
returns-in-Some c =
    let lead = c.as_str-lead.result.now in
    let head = c.in_ok-head.head.now in
    let name = c.args.name.now in
    let full = c.after-full.result in
    let is_lead = c.as_str-lead.ensures.same ∙ c.lead.ensures.lead in
    record {
      is = c.hit_at.ensures.is
          ∙ defined_in c.args.files.now c.in-Some.place.file.now c.in-Some.place.definition.now head name full c.after-full.ensures.pieces
          (ap meaning_at (sym c.in-Some.is) ∙ c.definition_along.ensures.first)
          ∙ head_found c.args.files.now c.args.along.now.root lead head c.in_ok-others.others.now name c.args.count c.saturating_sub-start.result
          is_lead c.in_ok-others.ensures.after c.saturating_sub-start.ensures c.in_ok-head.ensures.front;
    }

pub returns-then-has : goal.returns-then-has
returns-then-has c =
    let lead = c.as_str-lead.result.now in
    let head = c.in_ok-head.head.now in
    let name = c.args.name.now in
    let full = c.after-full.result in
    let is_lead = c.as_str-lead.ensures.same ∙ c.lead.ensures.lead in
    record {
      is = sym (ap of_package c.if-has.true)
          ∙ undefined_in c.args.files.now c.args.along.now.files c.args.along.now.root lead head name full c.saturating_sub-start.result c.in_ok-packages.packages c.has.result
          c.requires.files is_lead c.in_ok-head.ensures.front c.in_ok-packages.ensures.range (λ l range some. c.has.ensures.is c.args.files.now l range some)
          (some_name name (sym c.is_empty.ensures ∙ c.if-is_empty.false)) c.after-full.ensures.pieces (ap meaning_at (sym c.in-None.is) ∙ c.definition_along.ensures.first)
          ∙ head_found c.args.files.now c.args.along.now.root lead head c.in_ok-others.others.now name c.args.count c.saturating_sub-start.result
          is_lead c.in_ok-others.ensures.after c.saturating_sub-start.ensures c.in_ok-head.ensures.front;
    }

pub returns-else-has : goal.returns-else-has
returns-else-has c =
    let lead = c.as_str-lead.result.now in
    let head = c.in_ok-head.head.now in
    let name = c.args.name.now in
    let full = c.after-full.result in
    let is_lead = c.as_str-lead.ensures.same ∙ c.lead.ensures.lead in
    record {
      is = sym (ap of_package c.if-has.false)
          ∙ undefined_in c.args.files.now c.args.along.now.files c.args.along.now.root lead head name full c.saturating_sub-start.result c.in_ok-packages.packages c.has.result
          c.requires.files is_lead c.in_ok-head.ensures.front c.in_ok-packages.ensures.range (λ l range some. c.has.ensures.is c.args.files.now l range some)
          (some_name name (sym c.is_empty.ensures ∙ c.if-is_empty.false)) c.after-full.ensures.pieces (ap meaning_at (sym c.in-None.is) ∙ c.definition_along.ensures.first)
          ∙ head_found c.args.files.now c.args.along.now.root lead head c.in_ok-others.others.now name c.args.count c.saturating_sub-start.result
          is_lead c.in_ok-others.ensures.after c.saturating_sub-start.ensures c.in_ok-head.ensures.front;
    }
