use Rattle.std.proofs.Common.{◌≡◌, ◌+◌, ◌-◌, ◌/◌, ◌∙◌, ap, arith, length, length-append, subst, sym, ◌∷◌, []}
use Rattle.work_pool.specs.Groups.{together, run_count, share, AreWithin}
use Rattle.work_pool.proofs.GroupLemmas.{cut, together_push}
use Rattle.work_pool.proofs.Shares.{front_within, back_within, within_push}
use Rattle.work_pool.proofs.groups.grouped.Goals as goal

pub loop-left-preserved : goal.loop-left-preserved
loop-left-preserved g c =
    let pushed = c.in_ok-push.ensures.items in let cuts = c.in_ok-split_off.ensures in let before = c.loop-left.invariant in
    let jobs = length c.loop-left.items.items in let len = c.len-in-loop-left in let len' = c.len-in-loop-left-2 in
    let most = share (length c.args.items.items) (run_count (length c.args.items.items) c.args.threads) in
    let run = c.in_ok-split_off.field-0 in
    let left = c.loop-left.left in let front = c.split_off.new.self in
    let is : len.result ≡ jobs = omega (arith, len.ensures, c.loop-left.items.ok) in
    let is' : len'.result ≡ jobs = omega (arith, len'.ensures, c.loop-left.items.ok) in
    let stays : length front.items ≡ len.result - len'.result / left = omega (arith, cuts.len, front.ok) in
    let goes : length run.items + (len.result - len'.result / left) ≡ jobs = omega (arith, cuts.tail_len, run.ok, c.loop-left.items.ok) in
    let within = back_within jobs len.result len'.result left most (length run.items) is is' before.covered goes in
    record {
      some = omega arith;
      count = omega (arith, before.count, ap length pushed, length-append c.loop-left.groups.items (run ∷ []));
      all = cut c.loop-left.items.items c.split_off.new.self.items _ c.loop-left.groups.items c.push.new.self.items run cuts.items cuts.tail pushed ∙ before.all;
      covered = front_within jobs len.result len'.result left most (length front.items) is is' before.some before.covered stays;
      even = subst (AreWithin most) (sym pushed) (within_push most c.loop-left.groups.items run before.even within);
    }

pub returns-clause-items : goal.returns-clause-items
returns-clause-items g c = ap together c.in_ok-push-2.ensures.items ∙ (together_push c.loop-left.groups.items c.loop-left.items ∙ c.loop-left.invariant.all)
