use Rattle.std.proofs.Common.{refl, false}
use Rattle.ps_model.specs.Blocks.{block}
use Rattle.ps_model.specs.declared.kind.Kind.TheVariants.{Equivalent, Antivalent}
use Rattle.ps_sensors.specs.Contacts.{code_of}
use Rattle.ps_block.proofs.Loading.{loads_written}
use Rattle.ps_sensors.proofs.contacts.ContactsState.store.Goals as goal

pub returns-clause-equivalent : goal.returns-clause-equivalent
unfolding block
returns-clause-equivalent c =
    let s = c.args.self.now in
    loads_written Equivalent c.write.new.into (record { code = c.code.result; last_reset = false; last_auxiliary = false; mode = 0; time = s.since })
    (code_of s.phase) c.write.ensures.bytes c.code.ensures.code c.code.ensures.equivalent refl refl refl c.write.ensures.time

pub returns-clause-antivalent : goal.returns-clause-antivalent
unfolding block
returns-clause-antivalent c =
    let s = c.args.self.now in
    loads_written Antivalent c.write.new.into (record { code = c.code.result; last_reset = false; last_auxiliary = false; mode = 0; time = s.since })
    (code_of s.phase) c.write.ensures.bytes c.code.ensures.code c.code.ensures.antivalent refl refl refl c.write.ensures.time
