-- What contracts see of the allocators that run.
use Rattle.std.specs.Prelude.{List}
use Rattle.disk_model.specs.declared.disk.Disk.{Ghosts}
use Rattle.cmd_node.specs.declared.runner.Runner.{Runner}
use Rattle.cmd_node.specs.declared.runners.Runners.{Runners}

module _ {D F : Type 0} {disk : Ghosts D} where
  abbrev pub runners_of : Runners D F disk → List (Runner D F disk)
  runners_of runners = runners.list.items

  -- the closure that they were given
  abbrev pub accepts : Runners D F disk → F
  accepts runners = runners.accept
