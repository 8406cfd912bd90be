use Rattle.std.proofs.Common.{rules, leb}
use Rattle.std.proofs.lemmas.Bool.{leb-true, leb-false}
use Rattle.std.proofs.lemmas.List.Sorted.{IsPartitionPoint-from_clause, IsPartitionedBy-leb}
use Rattle.ir_mem.proofs.OrderLemmas.{bases_rise}
use Rattle.ir_mem.specs.declared.block.Block.{Block}
use Rattle.ir_mem.proofs.search.begun.Goals as goal

pub returns-clause-cut : goal.returns-clause-cut
returns-clause-cut c =
    let cut =
    IsPartitionPoint-from_clause (λ (block : Block). leb block.base c.args.address) c.args.blocks.now c.partition_point.result
    c.partition_point.ensures.partitioned
    (IsPartitionedBy-leb (λ (block : Block). block.base) c.args.blocks.now c.args.address (bases_rise c.args.blocks.now c.requires))
    (λ a r f' k. search rules) in
    (λ k d low high. leb-true _ _ (cut.0 k d low high), λ k d low high. leb-false _ _ (cut.1 k d low high))
