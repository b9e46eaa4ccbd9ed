use Rattle.ps_resolve.proofs.LiteralValues.{product_of_many}
use Rattle.ps_resolve.proofs.literal.literal_in_product.Goals as goal

pub returns-in_default-2 : goal.returns-in_default-2
returns-in_default-2 c = product_of_many c.args.product.now c.as_slice.result.now c.as_slice.ensures.value c.in_default.len_at_least
