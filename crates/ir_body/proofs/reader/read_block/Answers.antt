use Rattle.ir_rules.proofs.Prefixes.{gives_prefix, gives_only, gives_stop}
use Rattle.ir_body.specs.Blocks.{blocks}
use Rattle.ir_body.proofs.BlockLaws.{blocks_law}
use Rattle.ir_body.proofs.reader.read_block.Goals as goal

pub returns-clause-ok : goal.returns-clause-ok
returns-clause-ok c = gives_prefix (blocks c.args.first) (blocks_law c.args.first) c.args.rest c.read_block_text.result c.read_block_text.ensures

pub returns-clause-bad : goal.returns-clause-bad
returns-clause-bad c = gives_stop (blocks c.args.first) (blocks_law c.args.first) c.args.rest c.read_block_text.result c.read_block_text.ensures

pub returns-clause-only : goal.returns-clause-only
returns-clause-only c = gives_only (blocks c.args.first) (blocks_law c.args.first) c.args.rest c.read_block_text.result c.read_block_text.ensures
