use Rattle.std.proofs.Common.{◌≡◌, ◌≤◌, ◌-◌, vec_len}
use Rattle.std.specs.Io.KnownBytes.{prepend_known}
use Rattle.odr_io.proofs.std_files.read_whole.Given as goal

-- the bytes read so far and those that are left are the same at each turn
abbrev pub invariant-loop-count : goal.invariant-loop-count
invariant-loop-count g l = record {
  within : vec_len l.into ≤ l.limit;
  same : prepend_known l.initial.into.items (g.S.Source.left l.initial.source) ≡ prepend_known l.into.items (g.S.Source.left l.source);
  steady : g.S.Source.faults l.source ≡ g.S.Source.faults l.initial.source;
}

abbrev pub decreases-loop-count : goal.decreases-loop-count
decreases-loop-count g l = l.limit - vec_len l.into
