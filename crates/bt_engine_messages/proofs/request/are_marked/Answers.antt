use Rattle.bt_engine_messages.proofs.Requests.{unmarked_first, unmarked_last}
use Rattle.bt_engine_messages.proofs.request.are_marked.Goals as goal

pub returns-then-is_marked-clause-no : goal.returns-then-is_marked-clause-no
returns-then-is_marked-clause-no g c =
    unmarked_last c.args.parts.now c.args.span c.requires c.is_marked-then-is_marked.result c.last_block.result c.last_block.ensures c.is_marked-then-is_marked.ensures.no

pub returns-else-is_marked-clause-no : goal.returns-else-is_marked-clause-no
returns-else-is_marked-clause-no g c =
    unmarked_first c.args.parts.now c.args.span c.requires c.is_marked.result c.first_block.result c.first_block.ensures c.is_marked.ensures.no
