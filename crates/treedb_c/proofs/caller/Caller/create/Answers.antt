use Rattle.std.proofs.Common.{◌≡◌, sym, subst}
use Rattle.treedb_c.specs.Calls.{IsRefused, size_code}
use Rattle.treedb_c.specs.declared.code.Code.{Code}
use Rattle.treedb_c.proofs.Called.{first_is_told}
use Rattle.treedb_c.proofs.caller.Caller.create.Goals as goal

pub returns-in-Err-Sizes-clause-refused : goal.returns-in-Err-Sizes-clause-refused
returns-in-Err-Sizes-clause-refused g c =
    let n = c.in-Err-Sizes.number in
    let out = (c.create.ensures.sizes n).0 (cc (c.in-Err-Sizes.is, c.in-Err-Sizes.field-0-is)) in
    let code : c.code_of_size.result ≡ size_code n = cc (c.code_of_size.ensures, c.in-Err-Sizes.number-is) in
    subst (λ (x : Code). IsRefused g.row.W c.args.slots c.args.sizes.now x) (sym code)
    (first_is_told g.row.W c.args.slots c.args.sizes.now n c.in-Ok.ensures.ok.0 out)

pub returns-in-Err-NoMemory-clause-refused : goal.returns-in-Err-NoMemory-clause-refused
returns-in-Err-NoMemory-clause-refused g c =
    (c.in-Ok.ensures.ok.0, λ n out. cc ((c.create.ensures.sizes n).1 out, c.in-Err-NoMemory.is, c.in-Err-NoMemory.field-0-is))
