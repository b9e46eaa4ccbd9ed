use Rattle.std.proofs.Common.{◌≡◌, ◌∙◌, ℕ, List, Option, None, sym, subst, arith, length}
use Rattle.std.proofs.lemmas.Grind.{common_steps}
use Rattle.std.proofs.lemmas.Result.{IfOk-weaker}
use Rattle.ps_model.specs.Network.{input_count}
use Rattle.ps_bench_names.specs.declared.name.Setting.{Setting}
use Rattle.ps_bench_cases.specs.declared.point.Point.{Point}
use Rattle.ps_bench_cases.specs.declared.room.Room.{Room}
use Rattle.ps_bench_cases.specs.Expanded.{act_text, point_after}
use Rattle.ps_bench_cases.specs.File.{stated}
use Rattle.ps_bench_cases.specs.Rooms.{Counts, IsRoom, HasRoom}
use Rattle.ps_bench_cases.proofs.Rooming.{stated_room, still_room}
use Rattle.ps_bench_cases.proofs.measured.Measured.behind_act.Goals as goal

pub returns-in_default : goal.returns-in_default
returns-in_default c = λ number settings.
    let none : c.args.self.now.room ≡ None = grind (arith, common_steps) in
    subst (HasRoom c.args.app.now (stated c.args.self.now.draft number settings c.args.act.now)) none
    (still_room c.args.app.now c.args.self.now.draft number settings c.args.act.now c.args.self.now.room (λ room head is of. cc) c.requires.placed c.requires.room)

pub returns-in-None : goal.returns-in-None
returns-in-None c = λ number settings.
    subst (HasRoom c.args.app.now (stated c.args.self.now.draft number settings c.args.act.now)) c.in-Some.is
    (still_room c.args.app.now c.args.self.now.draft number settings c.args.act.now c.args.self.now.room (λ room head is of. let none = c.in-None.is in cc) c.requires.placed c.requires.room)

pub returns-in-Some-head : goal.returns-in-Some-head
returns-in-Some-head c =
    let net = c.args.app.now in let d = c.args.self.now.draft in let a = c.args.act.now in let n = input_count net in
    let room = c.in-Some.room in
    let Behind : Option Room → Type 0 = λ r. (p : Point) → p.base ≡ c.base.result.time → Counts c.base.result.inputs p room → IsRoom c.base.result.inputs room.left (length (act_text p a)) (point_after p a) r in
    IfOk-weaker c.behind_act.result Behind (λ r. (number : ℕ) (settings : List Setting) → HasRoom net (stated d number settings a) r)
    (λ r behind number settings. stated_room net d c.in-Some-head.field-0 number settings a room r c.in-Some-head.is c.requires.placed
    (subst (HasRoom net d) c.in-Some.is c.requires.room)
    (λ p is counts. subst (λ (m : ℕ). IsRoom m room.left (length (act_text p a)) (point_after p a) r) c.base.ensures.inputs
    (behind p (is ∙ sym c.base.ensures.time) (subst (λ (m : ℕ). Counts m p room) (sym c.base.ensures.inputs) counts))))
    c.behind_act.ensures
