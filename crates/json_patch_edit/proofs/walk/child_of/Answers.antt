use Rattle.json_patch_edit.proofs.Common.{[], refl, sym, token_of}
use Rattle.json_patch_edit.proofs.Containers.{found_at_item, found_no_item}
use Rattle.json_patch_edit.proofs.walk.child_of.Goals as goal

pub returns-in-Ok : goal.returns-in-Ok
returns-in-Ok c =
    sym (found_at_item (token_of c.args.token) _ [] _ c.in-Array.items c.len.result c.in-Ok.index c.index.result.now refl c.in-Array.is c.len.ensures c.in-Ok.ensures c.index.ensures)

pub returns-in-Err : goal.returns-in-Err
returns-in-Err c = found_no_item (token_of c.args.token) _ [] _ c.in-Array.items c.len.result refl c.in-Array.is c.len.ensures c.in-Err.ensures.1
