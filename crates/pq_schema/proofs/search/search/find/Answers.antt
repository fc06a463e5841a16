use Rattle.std.proofs.Common.{◌≡◌, ◌++◌, ◌==◌, ℕ, List, Some, None, false, length, sym, ap, ◌∙◌, lit<}
use Rattle.std.proofs.lemmas.Result.{IfOk-weaker}
use Rattle.std.proofs.lemmas.Str.Pattern.{split_parts, strip_prefix_char}
use Rattle.pq_schema.specs.Resolution.{scopes, search}
use Rattle.pq_schema.specs.aux.Inside.{dotted_from, single_from}
use Rattle.pq_schema.specs.Resolution.{dotted, single}
use Rattle.pq_schema.proofs.Inside.{dotted_leads, single_leads}
use Rattle.pq_schema.proofs.Searches.{search_single, search_dotted}
use Rattle.pq_schema.proofs.search.search.find.Goals as goal

pub find_dotted-requires-clause-plain : goal.find_dotted-requires-clause-plain
find_dotted-requires-clause-plain c =
    (split_parts 46 c.args.name.now (Some (c.in-Some-split_once.first, c.in-Some-split_once.field-0-1)) c.in-Some-split_once.ensures.cases (lit< tt)).1

pub returns-in-Some-split_once : goal.returns-in-Some-split_once
returns-in-Some-split_once c =
    let o = c.args.origin in
    let name = c.args.name.now in
    let first = c.in-Some-split_once.first in
    let rest = c.in-Some-split_once.field-0-1 in
    let files = o.files.now in
    let outer = scopes o.outward.root.now in
    let are = c.requires.origin.inner in
    let parts = split_parts 46 name (Some (first, rest)) c.in-Some-split_once.ensures.cases (lit< tt) in
    let leads = strip_prefix_char 46 name None c.in-None.ensures.cases (lit< tt) in
    record {
      is = IfOk-weaker c.find_dotted.result _ _
          (λ hit h. h
          ∙ ap (λ (ls : List (List ℕ)). dotted_from files ls (dotted files outer first.now name) first.now name) are.are
          ∙ sym (dotted_leads files are.scopes outer first.now name)
          ∙ sym (search_dotted files (are.scopes ++ outer) name first.now rest.now parts.0 parts.1 leads)
          ∙ ap (λ (ss : List (List ℕ)). search files ss name) (sym are.all)) c.find_dotted.ensures.is;
      asked = c.find_dotted.ensures.asked;
    }

pub find_single-requires-clause-plain : goal.find_single-requires-clause-plain
find_single-requires-clause-plain c = split_parts 46 c.args.name.now None c.in-None-split_once.ensures.cases (lit< tt)

pub returns-in-None-split_once : goal.returns-in-None-split_once
returns-in-None-split_once c =
    let o = c.args.origin in
    let name = c.args.name.now in
    let files = o.files.now in
    let outer = scopes o.outward.root.now in
    let are = c.requires.origin.inner in
    let some : (length name == 0) ≡ false = cc in
    let parts = split_parts 46 name None c.in-None-split_once.ensures.cases (lit< tt) in
    record {
      is = IfOk-weaker c.find_single.result _ _
          (λ hit h. h
          ∙ ap (λ (ls : List (List ℕ)). single_from files ls (single files outer name) name) are.are
          ∙ sym (single_leads files are.scopes outer name)
          ∙ sym (search_single files (are.scopes ++ outer) name some parts)
          ∙ ap (λ (ss : List (List ℕ)). search files ss name) (sym are.all)) c.find_single.ensures.is;
      asked = c.find_single.ensures.asked;
    }
