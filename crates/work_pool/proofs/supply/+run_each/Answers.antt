use Rattle.std.proofs.Common.{◌≡◌, ◌∙◌, ap, subst}
use Rattle.work_pool.proofs.Supplying.{none_wanted, none_came, one_came}
use Rattle.work_pool.proofs.supply.+run_each.Goals as goal

pub returns-then-most-eq0-clause-ran : goal.returns-then-most-eq0-clause-ran
returns-then-most-eq0-clause-ran g t c =
    none_wanted g.S.Supply.gives g.S.Job.WaitingJob.promise c.args.most c.args.supply.now c.args.results.now.items
    c.if-most-eq0.true

pub returns-in_default-clause-ran : goal.returns-in_default-clause-ran
returns-in_default-clause-ran g t c =
    none_came g.S.Supply.gives g.S.Job.WaitingJob.promise c.args.most c.args.supply.now c.next.new.self
    c.args.results.now.items c.if-most-eq0.false c.in_default.ensures

pub returns-in-Ok-clause-ran : goal.returns-in-Ok-clause-ran
returns-in-Ok-clause-ran g t c =
    let is : c.in-Ok.thread.promise.job.value ≡ c.in-Some.job = ap (λ p. p.job.value) c.in-Ok.ensures.ok ∙ c.of.ensures in
    one_came g.S.Supply.gives g.S.Job.WaitingJob.promise c.args.most c.args.supply.now c.next.new.self
    c.run_each.new.supply c.in-Some.job c.join.result c.args.results.now.items c.run_each.new.results.items
    c.push_reserved.new.self.items c.if-most-eq0.false c.in-Some.ensures
    (subst (λ job. g.S.Job.WaitingJob.promise job c.join.result) is c.join.ensures)
    c.run_each.ensures.ran c.push_reserved.ensures.items

pub returns-in-Err-clause-ran : goal.returns-in-Err-clause-ran
returns-in-Err-clause-ran g t c =
    let is : c.in-Err.refused.value.0 ≡ c.in-Some.job = ap (λ run. run.0) c.in-Err.ensures.err in
    one_came g.S.Supply.gives g.S.Job.WaitingJob.promise c.args.most c.args.supply.now c.next.new.self
    c.run_each-in-Err.new.supply c.in-Some.job c.run-result.result c.args.results.now.items
    c.run_each-in-Err.new.results.items c.push_reserved-in-Err.new.self.items c.if-most-eq0.false c.in-Some.ensures
    (subst (λ job. g.S.Job.WaitingJob.promise job c.run-result.result) is c.run-result.ensures)
    c.run_each-in-Err.ensures.ran c.push_reserved-in-Err.ensures.items
