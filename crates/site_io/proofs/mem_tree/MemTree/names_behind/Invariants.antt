-- The files that are left lead to the names that all of them lead to.
use Rattle.std.proofs.Common.{◌≡◌, []}
use Rattle.site_io.specs.Folders.{names_with}
use Rattle.site_io.proofs.mem_tree.MemTree.names_behind.Given as goal

abbrev pub invariant-loop-path : goal.invariant-loop-path
invariant-loop-path l = names_with l.names.keys l.front l.path-iterator ≡ names_with [] l.front l.self.files
