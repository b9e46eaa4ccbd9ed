-- Where the loop stands in a trace.
use Rattle.std.proofs.Common.{◌≡◌, ◌∙◌, ◌≤◌, ◌<◌, ℕ, Bool, true, false, List, [], ◌∷◌, Option, Some, None, refl, sym, ap, subst, arith, if◌then◌else◌}
use Rattle.std.specs.Prelude.{nat_le}
use Rattle.std.proofs.lemmas.Bool.{le-leb, lt-leb}
use Rattle.ps_model.specs.Meaning.{Item, Meaning, Past, Runs, last, last_time, nothing, old_state, passed}
use Rattle.ps_model.specs.Meaning.Item.{scan, restart}
use Rattle.ps_model.specs.Network.{Network}
use Rattle.ps_model.specs.Scanning.{Solves, State}
use Rattle.ps_model.specs.declared.report.Scan.{Scan}
use Rattle.ps_bench_why.specs.Looking.{IsLast, IsLook}
use Rattle.ps_bench_why.specs.Scanned.{Scanned, begun, last_from, last_upto, scans_from, scans_of}
use Rattle.ps_bench_why.specs.Walking.{AreNoted, StandsBehind}
use Rattle.ps_bench_why.specs.declared.walker.Walker.{Walker}

module _ (net : Network) (time : ℕ) where
  -- The loop stands in front of these items, where the time picks this scan of all, if it picks one.
  pub record Standing (picked : Option Scanned) (w : Walker) (latest : ℕ) (items : List Item) : Type 0 where
    pub past : Past
    pub before : ℕ → ℕ
    pub ws : List State
    pub found : Option Scanned
    pub timely : last_time past ≤ latest
    pub stands : StandsBehind net past w
    pub noted : AreNoted before w.since.items
    pub means : Runs net past items ws
    pub look : IsLast net found w
    pub picks : last_from found time (scans_from past before items ws) ≡ picked

  -- at the beginning
  pub at_first : (w : Walker) (latest : ℕ) (items : List Item) (ws : List State) → Meaning net items ws → StandsBehind net nothing w →
      AreNoted (λ i. 0) w.since.items → w.last ≡ None → Standing (last_upto time (scans_of items ws)) w latest items
  at_first w latest items ws means stands noted none = record {
    past = nothing;
    before = λ i. 0;
    ws = ws;
    found = None;
    timely = omega arith;
    stands = stands;
    noted = noted;
    means = means;
    look = none;
    picks = refl;
  }

  -- the same walker, but for the room for a scan, and for what is next
  pub renewed : (found : Option Scanned) (w : Walker) → IsLast net found w → IsLast net found (record w { before = None })
  renewed None w is = is
  renewed (Some s) w is = record { solves = is.solves; times = is.times; old = is.old; new = is.new; calls = is.calls; since = is.since }

  -- a scan was read
  pub rescanned : (picked : Option Scanned) (w : Walker) (x : Scan) (latest : ℕ) (items : List Item) → Standing picked w latest items →
      Standing picked (record w { scan = x }) latest items
  rescanned picked w x latest items s = record {
    past = s.past;
    before = s.before;
    ws = s.ws;
    found = s.found;
    timely = s.timely;
    stands = stands_still s.past s.stands;
    noted = s.noted;
    means = s.means;
    look = look_still s.found s.look;
    picks = s.picks;
  }
    where
      stands_still : (past : Past) → StandsBehind net past w → StandsBehind net past (record w { scan = x })
      stands_still nothing is = is
      stands_still (last now v) is = is

      look_still : (found : Option Scanned) → IsLast net found w → IsLast net found (record w { scan = x })
      look_still None is = is
      look_still (Some s) is = record { solves = is.solves; times = is.times; old = is.old; new = is.new; calls = is.calls; since = is.since }

  -- after a restart
  pub restarted : (picked : Option Scanned) (w : Walker) (latest latest' : ℕ) (items rest : List Item) → items ≡ restart ∷ rest → latest' ≡ latest →
      Standing picked w latest items → Standing picked (record w { before = None }) latest' rest
  restarted picked w latest latest' items rest is same s =
      let means = subst (λ (xs : List Item). Runs net s.past xs s.ws) is s.means in
      let picks = subst (λ (xs : List Item). last_from s.found time (scans_from s.past s.before xs s.ws) ≡ picked) is s.picks in
      record {
        past = nothing;
        before = s.before;
        ws = s.ws;
        found = s.found;
        timely = omega arith;
        stands = refl;
        noted = s.noted;
        means = means;
        look = renewed s.found w s.look;
        picks = picks;
      }

  -- at the end
  pub at_end : (picked : Option Scanned) (w : Walker) (latest : ℕ) (items : List Item) → items ≡ [] → Standing picked w latest items → IsLast net picked w
  at_end picked w latest items is s =
      let picks = subst (λ (xs : List Item). last_from s.found time (scans_from s.past s.before xs s.ws) ≡ picked) is s.picks in
      subst (λ (o : Option Scanned). IsLast net o w) picks s.look

  -- in front of a later scan
  pub at_later : (picked : Option Scanned) (w : Walker) (latest : ℕ) (items rest : List Item) (now : ℕ) (ins : List Bool) →
      items ≡ scan now ins ∷ rest → time < now → Standing picked w latest items → IsLast net picked w
  at_later picked w latest items rest now ins is later s =
      by s.ws (subst (λ (xs : List Item). Runs net s.past xs s.ws) is s.means)
      (subst (λ (xs : List Item). last_from s.found time (scans_from s.past s.before xs s.ws) ≡ picked) is s.picks)
    where
      by : (ws : List State) → Runs net s.past (scan now ins ∷ rest) ws →
          last_from s.found time (scans_from s.past s.before (scan now ins ∷ rest) ws) ≡ picked → IsLast net picked w
      by [] means picks = absurd means
      by (v ∷ ws) means picks =
          let off : nat_le now time ≡ false = lt-leb now time later in
          let here = Some (record { past = s.past; now = now; ins = ins; new = v; before = s.before }) in
          let more = last_from here time (scans_from (last now v) (begun s.past s.before now v) rest ws) in
          let found : s.found ≡ picked = sym (ap (λ b. if b then more else s.found) off) ∙ picks in
          subst (λ (o : Option Scanned). IsLast net o w) found s.look

  -- after a scan that is not later
  pub taken : (picked : Option Scanned) (w w' : Walker) (latest : ℕ) (items rest : List Item) (now : ℕ) (ins : List Bool) →
      items ≡ scan now ins ∷ rest → now ≤ time → latest ≤ now → Standing picked w latest items →
      ((past : Past) (before : ℕ → ℕ) (v : State) → StandsBehind net past w → AreNoted before w.since.items → last_time past ≤ now →
      Solves net (old_state net past) ins (passed past now) v →
      IsLook net (record { past = past; now = now; ins = ins; new = v; before = before }) w') →
      ((past : Past) (v : State) → StandsBehind net past w → last_time past ≤ now →
      Solves net (old_state net past) ins (passed past now) v → StandsBehind net (last now v) w') →
      Standing picked w' now rest
  taken picked w w' latest items rest now ins is due rises s look stands =
      by s.ws (subst (λ (xs : List Item). Runs net s.past xs s.ws) is s.means)
      (subst (λ (xs : List Item). last_from s.found time (scans_from s.past s.before xs s.ws) ≡ picked) is s.picks)
    where
      not_before : last_time s.past ≤ now
      not_before = omega (arith, s.timely, rises)

      by : (ws : List State) → Runs net s.past (scan now ins ∷ rest) ws →
          last_from s.found time (scans_from s.past s.before (scan now ins ∷ rest) ws) ≡ picked → Standing picked w' now rest
      by [] means picks = absurd means
      by (v ∷ ws) means picks =
          let on : nat_le now time ≡ true = le-leb now time due in
          let here = Some (record { past = s.past; now = now; ins = ins; new = v; before = s.before }) in
          let more = last_from here time (scans_from (last now v) (begun s.past s.before now v) rest ws) in
          let seen = look s.past s.before v s.stands s.noted not_before means.0 in
          record {
            past = last now v;
            before = begun s.past s.before now v;
            ws = ws;
            found = here;
            timely = omega arith;
            stands = stands s.past v s.stands not_before means.0;
            noted = λ i noted at. (seen.since i noted at).behind;
            means = means.1;
            look = seen;
            picks = sym (ap (λ b. if b then more else s.found) on) ∙ picks;
          }
