use Rattle.std.proofs.Common.{◌∙◌, sym, lit<}
use Rattle.pq_rules.proofs.NameCuts.{word_first, rest_first, no_space}
use Rattle.pq_rules.proofs.sums.names.cut.Goals as goal

pub returns-in-Some-clause-name : goal.returns-in-Some-clause-name
returns-in-Some-clause-name c = let b = c.in-Some.ensures.byte (lit< tt) (λ w o f. f) in b.0 ∙ word_first c.args.text.now

pub returns-in-Some-clause-left : goal.returns-in-Some-clause-left
returns-in-Some-clause-left c = let b = c.in-Some.ensures.byte (lit< tt) (λ w o f. f) in b.1 ∙ rest_first c.args.text.now

pub returns-in-None-clause-name : goal.returns-in-None-clause-name
returns-in-None-clause-name c = let b = c.in-None.ensures.byte (lit< tt) (λ w o f. f) in sym (no_space c.args.text.now b).0

pub returns-in-None-clause-left : goal.returns-in-None-clause-left
returns-in-None-clause-left c = let b = c.in-None.ensures.byte (lit< tt) (λ w o f. f) in sym (no_space c.args.text.now b).1
