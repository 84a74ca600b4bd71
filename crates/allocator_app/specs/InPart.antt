-- What a run leaves where an object of the outside failed.
use Rattle.std.specs.Prelude.{◌≡◌, ◌≤◌, ◌<◌, ◌⊎◌, ℕ, List, [], ◌++◌, length, Option, Some, None}
use Rattle.std.specs.Io.KnownBytes.{Appends}
use Rattle.replay_text.specs.Lines.{after_line}
use Rattle.cmd_io.specs.Output.{WritesFront}
use Rattle.cmd_io.specs.NoFurther.{ReadsNoFurther}
use Rattle.allocator_app.specs.Report.{ReadsUpTo, ReadsKeepingWord, IsReport}
use Rattle.bus_spec.specs.Cluster.{Cluster}
use Rattle.cmd_io.specs.declared.status.Status.{Status}

-- so far: some of the schedule's bytes were read, and all that their rows tell was written; some bytes
-- behind these rows were read too and wait, and the others are left in the source
pub record HasRead (first now : Cluster) (bytes waiting : List ℕ)
    (left sink_before sink_now : Option (List ℕ)) : Type 0 where
  pub ahead : List ℕ
  pub left_is : left ≡ Some ahead
  pub lines : List ℕ
  pub goes : ReadsKeepingWord first bytes lines now (waiting ++ ahead)
  pub written : Appends sink_before sink_now lines

-- the source failed: the lines of exactly the rows whose line feeds were read are written. The read was needed: what
-- waits is no whole line, and at most 120 bytes; where no other row may come, nothing waits
pub record IsReadInPart (limit : ℕ) (first : Cluster) (bytes : List ℕ)
    (left sink_before sink_now : Option (List ℕ)) : Type 0 where
  pub now : Cluster
  pub waiting : List ℕ
  pub read : HasRead first now bytes waiting left sink_before sink_now
  pub unended : after_line waiting ≡ None
  pub short : length waiting ≤ 120
  pub another : (waiting ≡ []) ⊎ (now.rows < limit)
  pub within : now.rows ≤ limit

-- the sink has all lines of some rows, and of the bytes behind these rows no more were read than the run keeps at a
-- time: it reads no more once a write has failed
pub record ReadsAhead (first : Cluster) (bytes : List ℕ) (left sink_before sink_now : Option (List ℕ))
    : Type 0 where
  pub now : Cluster
  pub lines : List ℕ
  pub rest : List ℕ
  pub comes : ReadsUpTo first bytes lines now rest
  pub more : List ℕ
  pub written : Appends sink_before sink_now (lines ++ more)
  pub no_further : ReadsNoFurther rest left

-- what a run writes, some of it or all: the lines of some rows that may come, or the whole report; and the bytes
-- behind these rows
pub data IsText (limit : ℕ) (first : Cluster) (bytes text rest : List ℕ) : Type 0 where
  OfRows : (now : Cluster) → ReadsUpTo first bytes text now rest → now.rows ≤ limit →
      IsText limit first bytes text rest
  OfAll : (status : Status) → (is : IsReport limit first bytes text status) → rest ≡ is.rest →
      IsText limit first bytes text rest

-- the sink failed: it has a front of such a text. The source was read no further than that text's rows, nor than those
-- whose lines are all written
pub record IsWrittenInPart (limit : ℕ) (first : Cluster) (bytes : List ℕ)
    (left sink_before sink_now : Option (List ℕ)) : Type 0 where
  pub text : List ℕ
  pub rest : List ℕ
  pub is : IsText limit first bytes text rest
  pub front : WritesFront sink_before sink_now text
  pub no_further : ReadsNoFurther rest left
  pub ahead : ReadsAhead first bytes left sink_before sink_now
