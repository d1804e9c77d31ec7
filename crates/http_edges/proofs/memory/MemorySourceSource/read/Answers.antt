use Rattle.std.proofs.Common.{arith, length}
use Rattle.std.proofs.lemmas.List.{length-drop}
use Rattle.http_edges.proofs.Pieces.{copied_given, ends_there}
use Rattle.http_edges.proofs.memory.MemorySourceSource.read.Goals as goal

pub returns-clause-ok : goal.returns-clause-ok
returns-clause-ok c =
    let s = c.args.self.now in
    let n = c.min-count.result in
    let left = length-drop s.taken s.input.items in
    record {
      within = omega arith;
      gives = copied_given _ _ s.input.items s.taken n (omega arith) (omega (arith, left)) (rw c.deref-2.ensures.value at c.copy_from_slice.ensures.after);
      ends = ends_there s.input.items s.taken n (length c.args.into.now) s.chunk (omega arith) (omega arith);
    }
