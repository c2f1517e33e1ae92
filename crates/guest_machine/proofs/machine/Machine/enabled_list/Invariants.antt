use Rattle.std.proofs.Common.{◌≡◌, ◌≤◌, length, take}
use Rattle.std.specs.List.{filter, range_with_len}
use Rattle.guest_machine.specs.Whole.{may_step}
use Rattle.guest_machine.proofs.machine.Machine.enabled_list.Given as goal

abbrev pub invariant-loop-tid : goal.invariant-loop-tid
invariant-loop-tid l = record {
  few : l.count ≤ l.tid;
  number : l.count ≡ length (filter (may_step l.self) (range_with_len 0 l.tid));
  list : take l.count l.into ≡ filter (may_step l.self) (range_with_len 0 l.tid);
  place : length l.into ≡ 8;
}
