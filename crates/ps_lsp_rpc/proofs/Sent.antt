-- What is written of a value that is lent.
use Rattle.std.proofs.Common.{◌≡◌, ℕ, List, Option, Some, None, option_map, Bor, sym, subst}
use Rattle.serde_json.specs.View.{view}
use Rattle.serde_json.specs.declared.value.Value.{Value}
use Rattle.ps_lsp_rpc.specs.Sending.{Sends}

-- what is sent of a value that is lent is sent of the value
pub sent : (given : Option (Bor Value)) (own : Option Value) (before after final : List ℕ) → option_map (λ x. x.now) given ≡ own →
    Sends (option_map (λ v. view v.now) given) before after → final ≡ after → Sends (option_map view own) before final
sent None own before after final same sends kept =
    let moved : Sends None before final = subst (λ (t : List ℕ). Sends None before t) (sym kept) sends in
    subst (λ (o : Option Value). Sends (option_map view o) before final) same moved
sent (Some v) own before after final same sends kept =
    let moved : Sends (Some (view v.now)) before final = subst (λ (t : List ℕ). Sends (Some (view v.now)) before t) (sym kept) sends in
    subst (λ (o : Option Value). Sends (option_map view o) before final) same moved
