-- What a call leaves after another.
use Rattle.std.proofs.Common.{◌≡◌, ◌∙◌, ℕ, Bool, Result, Ok, Err, refl, sym, ap, subst, arith}
use Rattle.std.proofs.lemmas.Result.{IfErr-weaker}
use Rattle.std.specs.Prelude.{IsErrOf}
use Rattle.ps_bench_frame.proofs.Stopped.{rose_since}
use Rattle.ps_bench_frame.specs.Ending.{IsUnread}
use Rattle.ps_bench_frame.specs.declared.ending.Stop.{Stop}
use Rattle.ps_bench_frame.specs.declared.ending.Stop.TheVariants.{Unwritten, NoMemory}
use Rattle.ps_outside.specs.Outside.{Rose}
use Rattle.ps_bench_cover.specs.Leaving.{Leaves, LeavesOutput, Sides, Stays}

-- nothing was done
pub same : (a : Sides) → Stays a a
same a = record {
  reading = refl;
  kept = refl;
  reads = λ other. omega arith;
  telling = refl;
  writes = omega arith;
}

-- one after the other
pub both : (a b c : Sides) → Stays a b → Stays b c → Stays a c
both a b c one two = record {
  reading = two.reading ∙ one.reading;
  kept = two.kept ∙ one.kept;
  reads = λ other. omega (arith, one.reads other, two.reads other);
  telling = two.telling ∙ one.telling;
  writes = omega (arith, one.writes, two.writes);
}

-- after what changes nothing else
pub behind : {X : Type 0} (a b c : Sides) (ended : Result X Stop) (R S : Type 0) → Stays a b → Leaves R b c ended → (R → S) → Leaves S a c ended
behind a b c ended R S before leaves on = record {
  stays = both a b c before leaves.stays;
  unread = IfErr-weaker ended (λ stop. IsUnread stop → R) (λ stop. IsUnread stop → S) (λ stop rises is. on (rises is)) leaves.unread;
  unwritten = λ is. rose_since a.writes b.writes c.writes before.writes (leaves.unwritten is);
}

-- all was done
pub done : {X : Type 0} (R : Type 0) (a b : Sides) (x : X) → Stays a b → Leaves R a b (Ok x)
done R a b x stays = record {
  stays = stays;
  unread = tt;
  unwritten = λ is. cc;
}

-- a call stops as another one did
pub passed : {X Y : Type 0} (R : Type 0) (a b : Sides) (stop : Stop) → Leaves {X = X} R a b (Err stop) → Leaves {X = Y} R a b (Err stop)
passed R a b stop leaves = record {
  stays = leaves.stays;
  unread = leaves.unread;
  unwritten = λ is. let same_stop : stop ≡ Unwritten = cc in leaves.unwritten (ap Err same_stop);
}

-- a call stops so
pub stopped : {X Y : Type 0} (R : Type 0) (a b : Sides) (stop : Stop) → Stays a b → (IsUnread stop → R) →
    (IsErrOf {T = X} (Err stop) Unwritten → Rose a.writes b.writes) → Leaves {X = Y} R a b (Err stop)
stopped R a b stop stays unread unwritten = record {
  stays = stays;
  unread = unread;
  unwritten = λ is. let same_stop : stop ≡ Unwritten = cc in unwritten (ap Err same_stop);
}

-- nothing was written if memory runs out
pub no_memory : {X : Type 0} (tells : Bool) (faults : ℕ) (ended : Result X Stop) → ended ≡ Err NoMemory → LeavesOutput tells tells faults faults ended
no_memory {X = X} tells faults ended is = subst (λ (e : Result X Stop). LeavesOutput tells tells faults faults e) (sym is) (record {
  telling = refl;
  writes = omega arith;
  read = λ unread. cc;
  unwritten = λ unwritten. cc;
})
