-- What a film shows of the scans of a run, scan by scan.
use Rattle.std.proofs.Common.{◌≡◌, ◌≤◌, ◌<◌, ◌∙◌, ◌-◌, ◌++◌, ℕ, zero, suc, Bool, true, false, cond, List, [], ◌∷◌, Option, Some, None, length, ⊎_elim, refl, sym, ap, subst, arith}
use Rattle.std.specs.Prelude.{All, fold, slice_get, nat_lt}
use Rattle.std.proofs.lemmas.Bool.{cases_lt, le-leb, lt-leb, ltb-false, ltb-true}
use Rattle.std.proofs.lemmas.List.{length-append}
use Rattle.std.proofs.lemmas.List.Elements.{All-append, All-head, All-nil, All-tail, All-weaker}
use Rattle.std.proofs.lemmas.List.Sums.{fold-append}
use Rattle.std.proofs.lemmas.Option.{slice_get_within}
use Rattle.ps_bench_report.specs.Recorder.{Shows, Stays, last_frame}
use Rattle.ps_bench_report.specs.Recording.{Film, Frame, IsFilmOf, IsShownBy, Rises, Shot, later_upto, scan_at, shown_upto}
use Rattle.ps_bench_report.specs.declared.recording.TheConstants.{MOST_MOMENTS}
use Rattle.ps_bench_names.specs.declared.name.Name.{Name}

-- ---- the scan of a number, after one scan more

at_more : {X : Type 0} (xs : List X) (y : X) (k : ℕ) (x : X) → slice_get xs k ≡ Some x → slice_get (xs ++ y ∷ []) k ≡ Some x
at_more [] y k x at = cc
at_more (z ∷ zs) y zero x at = at
at_more (z ∷ zs) y (suc k) x at = at_more zs y k x at

at_less : {X : Type 0} (xs : List X) (y : X) (k : ℕ) (x : X) → k < length xs → slice_get (xs ++ y ∷ []) k ≡ Some x → slice_get xs k ≡ Some x
at_less [] y k x within at = absurd (omega arith)
at_less (z ∷ zs) y zero x within at = at
at_less (z ∷ zs) y (suc k) x within at = at_less zs y k x (omega arith) at

at_last : {X : Type 0} (xs : List X) (y : X) → slice_get (xs ++ y ∷ []) (length xs) ≡ Some y
at_last [] y = refl
at_last (z ∷ zs) y = at_last zs y

scan_more : (shots : List Shot) (s : Shot) (n : ℕ) (t : Shot) → scan_at shots n ≡ Some t → scan_at (shots ++ s ∷ []) n ≡ Some t
scan_more shots s zero t at = cc
scan_more shots s (suc k) t at = at_more shots s k t at

scan_less : (shots : List Shot) (s : Shot) (n : ℕ) (t : Shot) → n ≤ length shots → scan_at (shots ++ s ∷ []) n ≡ Some t → scan_at shots n ≡ Some t
scan_less shots s zero t within at = cc
scan_less shots s (suc k) t within at = at_less shots s k t (omega arith) at

scan_within : (shots : List Shot) (n : ℕ) (t : Shot) → scan_at shots n ≡ Some t → n ≤ length shots
scan_within shots zero t at = omega arith
scan_within shots (suc k) t at = let below = slice_get_within shots k t at in omega arith

scan_last : (shots : List Shot) (s : Shot) (n : ℕ) (t : Shot) → n ≡ suc (length shots) → scan_at (shots ++ s ∷ []) n ≡ Some t → s ≡ t
scan_last shots s n t is at =
    let here : scan_at (shots ++ s ∷ []) (suc (length shots)) ≡ Some t = subst (λ (m : ℕ). scan_at (shots ++ s ∷ []) m ≡ Some t) is at in
    let there = at_last shots s in
    cc

-- ---- what is shown last

-- of a later frame nothing is seen
shown_before : (n : ℕ) (frames : List Frame) (f : Frame) → n < f.scan → shown_upto n (frames ++ f ∷ []) ≡ shown_upto n frames
shown_before n frames f below =
    fold-append (later_upto n) None frames (f ∷ []) ∙ ap (λ b. cond b (Some f) (shown_upto n frames)) (lt-leb f.scan n below)

-- a frame is shown from its scan on
shown_then : (n : ℕ) (frames : List Frame) (f : Frame) → f.scan ≤ n → shown_upto n (frames ++ f ∷ []) ≡ Some f
shown_then n frames f upto =
    fold-append (later_upto n) None frames (f ∷ []) ∙ ap (λ b. cond b (Some f) (shown_upto n frames)) (le-leb f.scan n upto)

-- the last one of frames, or the one before them
abbrev last_or : Option Frame → List Frame → Option Frame
last_or got [] = got
last_or got (f ∷ frames) = last_or (Some f) frames

all_upto : (n : ℕ) (got : Option Frame) (frames : List Frame) → All (λ f. f.scan ≤ n) frames → fold (later_upto n) got frames ≡ last_or got frames
all_upto n got [] upto = refl
all_upto n got (f ∷ frames) upto =
    ap (λ b. fold (later_upto n) (cond b (Some f) got) frames) (le-leb f.scan n (All-head (λ (g : Frame). g.scan ≤ n) f frames upto))
    ∙ all_upto n (Some f) frames (All-tail (λ (g : Frame). g.scan ≤ n) f frames upto)

last_is : (f : Frame) (frames : List Frame) → last_or (Some f) frames ≡ slice_get (f ∷ frames) (length frames)
last_is f [] = refl
last_is f (g ∷ frames) = last_is g frames

last_frame_is : (frames : List Frame) → last_or None frames ≡ last_frame frames
last_frame_is [] = refl
last_frame_is (f ∷ frames) =
    let less : length frames ≡ length (f ∷ frames) - 1 = omega arith in
    last_is f frames ∙ ap (slice_get (f ∷ frames)) less

shown_last : (n : ℕ) (frames : List Frame) → All (λ f. f.scan ≤ n) frames → shown_upto n frames ≡ last_frame frames
shown_last n frames upto = all_upto n None frames upto ∙ last_frame_is frames

-- what shows nothing new is as it is shown
stays_shown : (n : ℕ) (s : Shot) (got : Option Frame) → Stays got s → IsShownBy n s got
stays_shown n s None stays = absurd stays
stays_shown n s (Some f) stays = (stays.1, stays.2, λ yes_. absurd (let no_ = stays.0 in cc))

-- a frame of a later scan goes on rising
rises_more : (n : ℕ) (frames : List Frame) (f : Frame) → Rises n frames → All (λ g. g.scan < f.scan) frames → n < f.scan → Rises n (frames ++ f ∷ [])
rises_more n [] f rises later above = (above, tt)
rises_more n (g ∷ frames) f rises later above =
    (rises.0, rises_more g.scan frames f rises.1 (All-tail (λ (h : Frame). h.scan < f.scan) g frames later) (All-head (λ (h : Frame). h.scan < f.scan) g frames later))

-- ---- one scan more

module _ (names : List Name) (shots : List Shot) (s : Shot) (film : Film) (is : IsFilmOf names shots film) where
  -- a film that shows the same frames still shows them
  each_more : All (λ f. scan_at (shots ++ s ∷ []) f.scan ≡ Some f.shot) film.frames
  each_more =
      All-weaker (λ (f : Frame). scan_at shots f.scan ≡ Some f.shot) (λ f. scan_at (shots ++ s ∷ []) f.scan ≡ Some f.shot)
      (λ f at. scan_more shots s f.scan f.shot at) film.frames is.each

  each_within : All (λ (f : Frame). f.scan ≤ length shots) film.frames
  each_within =
      All-weaker (λ (f : Frame). scan_at shots f.scan ≡ Some f.shot) (λ f. f.scan ≤ length shots)
      (λ f at. scan_within shots f.scan f.shot at) film.frames is.each

  longer : length (shots ++ s ∷ []) ≡ suc (length shots)
  longer = length-append shots (s ∷ []) ∙ omega arith

  -- a film that is cut stays as it is
  stays_cut : (film' : Film) → film'.names ≡ film.names → film'.frames ≡ film.frames → film'.is_cut ≡ true → MOST_MOMENTS ≤ length film.frames →
      IsFilmOf names (shots ++ s ∷ []) film'
  stays_cut film' same frames_are cut full = record {
    named = same ∙ is.named;
    each = subst (λ (fs : List Frame). All (λ f. scan_at (shots ++ s ∷ []) f.scan ≡ Some f.shot) fs) (sym frames_are) each_more;
    rises = subst (λ (fs : List Frame). Rises 0 fs) (sym frames_are) is.rises;
    upto = is.upto;
    within = let old = is.within in omega (arith, longer);
    rest = λ no_. absurd (cc);
    full = λ _. subst (λ (fs : List Frame). MOST_MOMENTS ≤ length fs) (sym frames_are) full;
    shows = λ n t upto at.
        subst (λ (fs : List Frame). IsShownBy n t (shown_upto n fs)) (sym frames_are)
        (is.shows n t upto (scan_less shots s n t (let old = is.within in omega arith) at));
  }

  -- a scan that shows nothing new is left out
  left_out : film.is_cut ≡ false → Stays (last_frame film.frames) s → IsFilmOf names (shots ++ s ∷ []) film
  left_out going stays = record {
    named = is.named;
    each = each_more;
    rises = is.rises;
    upto = suc (length shots);
    within = omega (arith, longer);
    rest = λ _. sym longer;
    full = λ yes_. absurd (cc);
    shows = λ n t upto at. ⊎_elim
        (λ before. is.shows n t (let all_ = is.rest going in omega arith) (scan_less shots s n t (omega arith) at))
        (λ then_.
        let here : n ≡ suc (length shots) = omega arith in
        subst (λ (u : Shot). IsShownBy n u (shown_upto n film.frames)) (scan_last shots s n t here at)
        (subst (λ (got : Option Frame). IsShownBy n s got)
        (sym (shown_last n film.frames (All-weaker (λ (f : Frame). f.scan ≤ length shots) (λ f. f.scan ≤ n) (λ f below. omega arith) film.frames each_within)))
        (stays_shown n s (last_frame film.frames) stays)))
        (cases_lt n (suc (length shots)));
  }

  -- a scan is shown
  shown : (f : Frame) → f.scan ≡ suc (length shots) → f.shot ≡ s → film.is_cut ≡ false → (film' : Film) →
      film' ≡ record { names = film.names; frames = film.frames ++ f ∷ []; is_cut = film.is_cut } → IsFilmOf names (shots ++ s ∷ []) film'
  shown f number is_s going film' is_film' = subst (IsFilmOf names (shots ++ s ∷ [])) (sym is_film') (record {
    named = is.named;
    each = All-append (λ (g : Frame). scan_at (shots ++ s ∷ []) g.scan ≡ Some g.shot) film.frames (f ∷ []) each_more one;
    rises = rises_more 0 film.frames f is.rises
        (All-weaker (λ (g : Frame). g.scan ≤ length shots) (λ g. g.scan < f.scan) (λ g below. omega arith) film.frames each_within) (omega arith);
    upto = suc (length shots);
    within = omega (arith, longer);
    rest = λ _. sym longer;
    full = λ yes_. absurd (cc);
    shows = λ n t upto at. ⊎_elim
        (λ before.
        subst (λ (got : Option Frame). IsShownBy n t got) (sym (shown_before n film.frames f (omega arith)))
        (is.shows n t (let all_ = is.rest going in omega arith) (scan_less shots s n t (omega arith) at)))
        (λ then_.
        let here : n ≡ suc (length shots) = omega arith in
        let same : s ≡ t = scan_last shots s n t here at in
        subst (λ (got : Option Frame). IsShownBy n t got) (sym (shown_then n film.frames f (omega arith)))
        (ap (λ (u : Shot). u.course) (is_s ∙ same), ap (λ (u : Shot). u.values) (is_s ∙ same), λ _. number ∙ sym here))
        (cases_lt n (suc (length shots)));
  })
    where
      here_it_is : scan_at (shots ++ s ∷ []) f.scan ≡ Some f.shot
      here_it_is =
          subst (λ (m : ℕ). scan_at (shots ++ s ∷ []) m ≡ Some f.shot) (sym number)
          (subst (λ (u : Shot). slice_get (shots ++ s ∷ []) (length shots) ≡ Some u) (sym is_s) (at_last shots s))

      one : All (λ (g : Frame). scan_at (shots ++ s ∷ []) g.scan ≡ Some g.shot) (f ∷ [])
      one zero d below = here_it_is
      one (suc k) d below = absurd (omega arith)

  abbrev added : Bool → Frame → Film
  added b f = cond b (record { names = film.names; frames = film.frames ++ f ∷ []; is_cut = film.is_cut }) (record { names = film.names; frames = film.frames; is_cut = true })

  with_one : (f : Frame) → f.scan ≡ suc (length shots) → f.shot ≡ s → (film' : Film) → (cut : Bool) → film.is_cut ≡ cut →
      (b : Bool) → nat_lt (length film.frames) MOST_MOMENTS ≡ b → film' ≡ added b f → IsFilmOf names (shots ++ s ∷ []) film'
  with_one f number is_s film' false going true room is_film' = shown f number is_s going film' is_film'
  with_one f number is_s film' true cut true room is_film' =
      absurd (let full = is.full cut in let few = ltb-true (length film.frames) MOST_MOMENTS room in omega arith)
  with_one f number is_s film' cut is_cut false room is_film' =
      stays_cut film' (ap (λ (x : Film). x.names) is_film') (ap (λ (x : Film). x.frames) is_film') (ap (λ (x : Film). x.is_cut) is_film')
      (ltb-false (length film.frames) MOST_MOMENTS room)

  out_one : (cut : Bool) → film.is_cut ≡ cut → Stays (last_frame film.frames) s → IsFilmOf names (shots ++ s ∷ []) film
  out_one false going stays = left_out going stays
  out_one true cut stays = stays_cut film refl refl cut (is.full cut)

  -- What is shown of one scan more.
  pub film_goes : (f : Frame) → f.scan ≡ suc (length shots) → f.shot ≡ s → (film' : Film) → Shows film f film' → IsFilmOf names (shots ++ s ∷ []) film'
  film_goes f number is_s film' shows = ⊎_elim
      (λ is_film'. with_one f number is_s film' film.is_cut refl (nat_lt (length film.frames) MOST_MOMENTS) refl is_film')
      (λ out. subst (IsFilmOf names (shots ++ s ∷ [])) (sym out.1)
      (out_one film.is_cut refl (subst (λ (u : Shot). Stays (last_frame film.frames) u) is_s out.0)))
      shows

-- nothing is shown of no scan
pub film_begins : (names : List Name) (film : Film) → film ≡ record { names = names; frames = []; is_cut = false } → IsFilmOf names [] film
film_begins names film is = subst (IsFilmOf names []) (sym is) (record {
  named = refl;
  each = All-nil (λ (f : Frame). scan_at [] f.scan ≡ Some f.shot);
  rises = tt;
  upto = 0;
  within = omega arith;
  rest = λ _. refl;
  full = λ yes_. absurd (cc);
  shows = λ n s upto at. none n s at;
})
  where
    none : (n : ℕ) (s : Shot) → scan_at [] n ≡ Some s → IsShownBy n s (shown_upto n [])
    none zero s at = cc
    none (suc k) s at = cc
