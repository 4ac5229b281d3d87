-- What a source and a sink in memory hold.
use Rattle.std.specs.Prelude.{ℕ, ◌-◌, List, ◌++◌, take, drop}
use Rattle.hb_io.specs.Faults.{next_count}

-- a source that never fails: the bytes left, and the most bytes of one read
pub record Stock : Type 0 where
  pub left : List ℕ
  pub piece : ℕ

-- a source: the bytes left, the most bytes of one read, which reads fail, and how many reads and faults there were
pub record Supply : Type 0 where
  pub left : List ℕ
  pub piece : ℕ
  pub failing : List ℕ
  pub calls : ℕ
  pub faults : ℕ

-- a sink: the bytes kept, how many more it has room for, the most bytes of one write, which writes fail, and how many writes and faults there were
pub record Store : Type 0 where
  pub kept : List ℕ
  pub room : ℕ
  pub piece : ℕ
  pub failing : List ℕ
  pub calls : ℕ
  pub faults : ℕ

-- the source after a read of n bytes
abbrev pub after_read : Supply → ℕ → Supply
after_read s n = record s { left = drop n s.left; calls = next_count s.calls }

-- the source after a read that failed
abbrev pub after_failed_read : Supply → Supply
after_failed_read s = record s { calls = next_count s.calls; faults = next_count s.faults }

-- the sink after a write of the first n bytes
abbrev pub after_write : Store → ℕ → List ℕ → Store
after_write s n bytes = record s { kept = s.kept ++ take n bytes; room = s.room - n; calls = next_count s.calls }

-- the sink after a write that failed
abbrev pub after_failed_write : Store → Store
after_failed_write s = record s { calls = next_count s.calls; faults = next_count s.faults }
