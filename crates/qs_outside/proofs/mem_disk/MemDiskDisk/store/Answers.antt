use Rattle.std.proofs.Common.{false, rules, true}
use Rattle.qs_outside.proofs.Journals.{full_planned, may_leave-stored, may_leave-kept, none_planned, past-now, store_planned}
use Rattle.qs_outside.proofs.mem_disk.MemDiskDisk.store.Goals as goal

pub returns-then-is_full-clause-past : goal.returns-then-is_full-clause-past
returns-then-is_full-clause-past c =
    may_leave-kept c.args.self.now c.count_fault.new.self c.args.b c.args.bytes.now (search rules) (search rules)

pub returns-in-None-clause-past : goal.returns-in-None-clause-past
returns-in-None-clause-past c =
    may_leave-stored c.args.self.now c.write.new.self c.args.b c.args.bytes.now (search rules) (search rules)

pub returns-in-None-clause-past_now : goal.returns-in-None-clause-past_now
returns-in-None-clause-past_now c = λ held.
    past-now c.args.self.now c.write.new.self c.args.b c.args.bytes.now (search rules) (search rules) c.write.ensures.stored.here

pub returns-in-Some-true-clause-past : goal.returns-in-Some-true-clause-past
returns-in-Some-true-clause-past c =
    may_leave-stored c.args.self.now c.count_fault-in-Some-true.new.self c.args.b c.args.bytes.now (search rules) (search rules)

pub returns-in-Some-true-clause-past_now : goal.returns-in-Some-true-clause-past_now
returns-in-Some-true-clause-past_now c = λ held.
    past-now c.args.self.now c.count_fault-in-Some-true.new.self c.args.b c.args.bytes.now (search rules) (search rules) (search rules)

pub returns-in-Some-false-clause-past : goal.returns-in-Some-false-clause-past
returns-in-Some-false-clause-past c =
    may_leave-stored c.args.self.now c.count_fault-in-Some-false.new.self c.args.b c.args.bytes.now (search rules) (search rules)

pub returns-then-is_full-clause-as_planned : goal.returns-then-is_full-clause-as_planned
returns-then-is_full-clause-as_planned c =
    full_planned c.args.self.now c.count_fault.new.self c.args.b c.args.bytes.now (search rules) (search rules) (search rules) (search rules)

pub returns-in-None-clause-as_planned : goal.returns-in-None-clause-as_planned
returns-in-None-clause-as_planned c = none_planned c.args.self.now c.write.new.self c.args.b c.args.bytes.now (search rules)

pub returns-in-Some-true-clause-as_planned : goal.returns-in-Some-true-clause-as_planned
returns-in-Some-true-clause-as_planned c =
    store_planned c.args.self.now c.count_fault-in-Some-true.new.self c.args.b c.args.bytes.now true (search rules) (search rules) (search rules) (search rules) (search rules)

pub returns-in-Some-false-clause-as_planned : goal.returns-in-Some-false-clause-as_planned
returns-in-Some-false-clause-as_planned c =
    store_planned c.args.self.now c.count_fault-in-Some-false.new.self c.args.b c.args.bytes.now false (search rules) (search rules) (λ d. search rules) (search rules) (search rules)
