-- Classes that are committed one after the other.
use Rattle.std.proofs.Common.{◌≡◌, ◌≢◌, ◌<◌, ◌≤◌, ◌⊎◌, ℕ, ◌+◌, List, [], ◌∷◌, ◌++◌, length, refl, sym, ◌∙◌, ap, subst, inl, inr, arith, get_or, Option, Some, None}
use Rattle.std.specs.Prelude.{Contains}
use Rattle.std.proofs.lemmas.Bool.{cases_eq, cases_lt}
use Rattle.base_types.specs.View.{View}
use Rattle.base_types.specs.Crash.{IsQuiet}
use Rattle.base_outside.proofs.Runs.{quiet_then}
use Rattle.disk_layout.specs.declared.half.Half.{Half}
use Rattle.disk_log.specs.Contents.{Contents, contents_of, page_in, stage_in, last_stage}
use Rattle.disk_log.specs.Log.{disk_of, state_of, IsIdle}
use Rattle.disk_log.specs.State.{State}
use Rattle.disk_log.specs.declared.log.Log.{Log}
use Rattle.disk_classes.specs.Joined.{Note, AreTogether, IsLeast, AreFirst, IsOf, IsPutBy, ShowsPuts}
use Rattle.disk_classes.specs.Notes.{vacant, noted_at, notes_in, note_of, class_of, joined_at, vacated, bytes_in, AreEndedAll, IsPutIn}
use Rattle.disk_classes.specs.Commit.{CommitsClass}
use Rattle.disk_classes.specs.Classes.{log_of, notes_of, value_of, IsSoundClasses, IsStageBy, Goes}
use Rattle.disk_classes.specs.declared.classes.Classes.{Classes}
use Rattle.disk_classes.specs.declared.member.Noted.{Noted as Kept}
use Rattle.disk_classes.specs.declared.members.Members.{Members}
use Rattle.disk_classes.specs.declared.members.Value.{Value}
use Rattle.disk_classes.specs.declared.member.Standing.TheVariants.{Vacant, Ended}
use Rattle.disk_classes.proofs.Committing.{contents_same}
use Rattle.disk_classes.proofs.Least.{together_sym, together_trans, together_share, of_push, of_more, of_last, of_along, of_or_not, of_none, least_one, first_none, first_push}
use Rattle.std.proofs.lemmas.List.Elements.{Contains-push_cases}
use Rattle.disk_classes.proofs.Lists.{contains_nil}
use Rattle.disk_classes.proofs.Noted.{vacated_in, vacated_out, length_vacated, ended_live, noted_past}
use Rattle.disk_classes.proofs.Only.{last_page}

-- a log without an open transaction, whose last stage is what its pages are
pub idle_last : {D : Type 0} (tells : Type 0) (view : D → View) (log : Log D) → IsIdle tells view log → tells → (p : ℕ) → stage_in (contents_of view log) (last_stage (contents_of view log)) p ≡ page_in (contents_of view log) p
idle_last tells view log idle told p = last_page (state_of log) (view (disk_of log)).image p idle.sound.accounts idle.none_open (idle.sound.steady.on_disk told).whole

-- After the classes of some least members below a number were committed, all those of which all have ended.
pub record Below {D : Type 0} (tells : Type 0) (view : D → View) (old : Classes D) (x : ℕ) (least : List ℕ) (now : Classes D) : Type 0 where
  pub sound : IsSoundClasses tells view now
  pub size : length now.members.noted ≡ length old.members.noted
  pub first : AreFirst (notes_of old) least
  pub under : (l : ℕ) → Contains least l → l < x
  pub passed : (m : ℕ) → m < x → (IsOf (notes_of old) least m → ⊥) → ((k : ℕ) → AreTogether (notes_of old) m k → (notes_of old k).standing ≡ Ended) → ⊥
  pub gone : (m : ℕ) → IsOf (notes_of old) least m → noted_at now.members.noted m ≡ vacant m
  pub stayed : (m : ℕ) → (IsOf (notes_of old) least m → ⊥) → noted_at now.members.noted m ≡ noted_at old.members.noted m
  pub put : (p : ℕ) → IsPutBy (notes_of old) least p → get_or now.members.values p None ≡ None
  pub kept : (p : ℕ) → (IsPutBy (notes_of old) least p → ⊥) → get_or now.members.values p None ≡ get_or old.members.values p None
  pub shows : tells → ShowsPuts (notes_of old) (value_of old) least (state_of (log_of old)).half.pages (page_in (contents_of view (log_of old))) (page_in (contents_of view (log_of now)))
  pub superblock : (state_of (log_of now)).superblock ≡ (state_of (log_of old)).superblock
  pub half : (state_of (log_of now)).half ≡ (state_of (log_of old)).half
  pub later : last_stage (contents_of view (log_of old)) ≤ last_stage (contents_of view (log_of now))
  pub stages : tells → (k : ℕ) → k ≤ last_stage (contents_of view (log_of now)) → IsStageBy view old k (stage_in (contents_of view (log_of now)) k)
  pub quiet : IsQuiet (view (disk_of (log_of old))) (view (disk_of (log_of now)))
  pub counted : (view (disk_of (log_of old))).faults ≤ (view (disk_of (log_of now))).faults

-- the same pages are the same stage
pub shows_same : (notes : ℕ → Note) (values : ℕ → Option (List ℕ)) (least : List ℕ) (n : ℕ) (before after other : ℕ → List ℕ) → ((p : ℕ) → p < n → other p ≡ after p) → ShowsPuts notes values least n before after → ShowsPuts notes values least n before other
shows_same notes values least n before after other same shows = record {
  puts = λ p bytes lt by is. same p lt ∙ shows.puts p bytes lt by is;
  rest = λ p lt out. same p lt ∙ shows.rest p lt out;
}

stage_same : {D : Type 0} (view : D → View) (old : Classes D) (k : ℕ) (pages other : ℕ → List ℕ) → ((p : ℕ) → p < (state_of (log_of old)).half.pages → other p ≡ pages p) → IsStageBy view old k pages → IsStageBy view old k other
stage_same view old k pages other same (inl (le, is)) = inl (le, λ p lt. same p lt ∙ is p lt)
stage_same view old k pages other same (inr (lt, (least, first, shows))) =
    inr (lt, (least, first, shows_same (notes_of old) (value_of old) least (state_of (log_of old)).half.pages (page_in (contents_of view (log_of old))) pages other same shows))

pub quiet_self : (view : View) → IsQuiet view view
quiet_self view = record { image = refl; later = omega arith; now = λ c left. left; since = λ t c le left. left; kept = λ t c le left. left }

none_put : (notes : ℕ → Note) (p : ℕ) → IsPutBy notes [] p → ⊥
none_put notes p (m, of, has) = of_none notes m of

pub below_none : {D : Type 0} (tells : Type 0) (view : D → View) (old : Classes D) → IsSoundClasses tells view old → Below tells view old 0 [] old
below_none tells view old sound = record {
  sound = sound;
  size = refl;
  first = first_none (notes_of old);
  under = λ l there. absurd (contains_nil l there);
  passed = λ m lt out all. absurd (omega (arith, lt));
  gone = λ m of. absurd (of_none (notes_of old) m of);
  stayed = λ m out. refl;
  put = λ p by. absurd (none_put (notes_of old) p by);
  kept = λ p out. refl;
  shows = λ told. record { puts = λ p bytes lt by is. absurd (none_put (notes_of old) p by); rest = λ p lt out. refl };
  superblock = refl;
  half = refl;
  later = omega arith;
  stages = λ told k le. inl (le, λ p lt. refl);
  quiet = quiet_self (view (disk_of (log_of old)));
  counted = omega arith;
}

module _ {D : Type 0} (tells : Type 0) (view : D → View) (old : Classes D) (sound : IsSoundClasses tells view old) (x : ℕ) (least : List ℕ) (now : Classes D) (below : Below tells view old x least now) where
  abbrev notes : ℕ → Note
  notes = notes_of old

  abbrev start : List Kept
  start = old.members.noted

  abbrev ms : List Kept
  ms = now.members.noted

  of_decided : (m : ℕ) → IsOf notes least m ⊎ (IsOf notes least m → ⊥)
  of_decided m = of_or_not notes (class_of start) sound.partition.joining sound.partition.finest least m

  same_together : (m k : ℕ) → class_of start m ≡ class_of start k → AreTogether notes m k
  same_together m k same = sound.partition.finest m k same

  together_same : (m k : ℕ) → AreTogether notes m k → class_of start m ≡ class_of start k
  together_same m k one = one (class_of start) sound.partition.joining

  -- a member that is left was there
  left_out : (m : ℕ) → (noted_at ms m).standing ≢ Vacant → IsOf notes least m → ⊥
  left_out m live of = live (ap (λ (n : Kept). n.standing) (below.gone m of))

  -- a member that has a page is left
  has_out : (m p : ℕ) → Contains (noted_at ms m).pages p → IsOf notes least m → ⊥
  has_out m p has of = contains_nil p (subst (λ (n : Kept). Contains n.pages p) (below.gone m of) has)

  -- two that are left are of one class now where they were
  now_together : (m k : ℕ) → (IsOf notes least m → ⊥) → (IsOf notes least k → ⊥) → class_of ms m ≡ class_of ms k → AreTogether notes m k
  now_together m k one two same = same_together m k (sym (ap (λ (n : Kept). n.class) (below.stayed m one)) ∙ same ∙ ap (λ (n : Kept). n.class) (below.stayed k two))

  not_along : (m k : ℕ) → (IsOf notes least m → ⊥) → AreTogether notes m k → IsOf notes least k → ⊥
  not_along m k out one of = out (of_along notes least k m of (together_sym notes m k one))

  -- one that was, is where it is left
  still_class : (m k : ℕ) → (IsOf notes least m → ⊥) → AreTogether notes m k → class_of ms k ≡ class_of ms m
  still_class m k out one =
      ap (λ (n : Kept). n.class) (below.stayed k (not_along m k out one)) ∙ sym (together_same m k one) ∙ sym (ap (λ (n : Kept). n.class) (below.stayed m out))

  -- a number of a member's class is a member's
  live_along : (m k : ℕ) → (notes m).standing ≢ Vacant → AreTogether notes m k → (notes k).standing ≢ Vacant
  live_along m k live one none =
      let named = sound.partition.named m live in
      named.0 (subst (λ (j : ℕ). (noted_at start j).standing ≡ Vacant) (sym (sound.partition.none k none).1 ∙ sym (together_same m k one)) none)

  -- all of a class that is left have ended, where all that are noted under its number have
  all_ended : (m : ℕ) → (IsOf notes least m → ⊥) → (notes m).standing ≢ Vacant → AreEndedAll ms (joined_at ms (class_of ms m)) → (k : ℕ) → AreTogether notes m k → (notes k).standing ≡ Ended
  all_ended m out live ended k one =
      let same = below.stayed k (not_along m k out one) in
      let here : (noted_at ms k).standing ≢ Vacant = λ none. live_along m k live one (sym (ap (λ (n : Kept). n.standing) same) ∙ none) in
      let listed = subst (λ (c : ℕ). Contains (joined_at ms c) k) (still_class m k out one) (below.sound.partition.listed k here) in
      sym (ap (λ (n : Kept). n.standing) same) ∙ ended k listed

  -- and the other way
  ended_all : (m : ℕ) → (IsOf notes least m → ⊥) → ((k : ℕ) → AreTogether notes m k → (notes k).standing ≡ Ended) → AreEndedAll ms (joined_at ms (class_of ms m))
  ended_all m out all k there =
      let inside = below.sound.partition.inside (class_of ms m) k there in
      let left = left_out k inside.1 in
      ap (λ (n : Kept). n.standing) (below.stayed k left) ∙ all k (now_together m k out left (sym inside.0))

  -- a number that isn't the least of a class that has ended
  pub below_passed : ((noted_at ms x).standing ≡ Ended → AreEndedAll ms (joined_at ms (class_of ms x)) → ⊥) → Below tells view old (x + 1) least now
  below_passed absent = record {
    sound = below.sound;
    size = below.size;
    first = below.first;
    under = λ l there. (let lt = below.under l there in omega (arith, lt));
    passed = λ m lt out all. by m out all lt (cases_eq m x);
    gone = below.gone;
    stayed = below.stayed;
    put = below.put;
    kept = below.kept;
    shows = below.shows;
    superblock = below.superblock;
    half = below.half;
    later = below.later;
    stages = below.stages;
    quiet = below.quiet;
    counted = below.counted;
  }
    where
      here : (IsOf notes least x → ⊥) → ((k : ℕ) → AreTogether notes x k → (notes k).standing ≡ Ended) → ⊥
      here out all = absent (ap (λ (n : Kept). n.standing) (below.stayed x out) ∙ all x (λ part joins. refl)) (ended_all x out all)

      by : (m : ℕ) → (IsOf notes least m → ⊥) → ((k : ℕ) → AreTogether notes m k → (notes k).standing ≡ Ended) → m < x + 1 → (m ≡ x) ⊎ (m ≡ x → ⊥) → ⊥
      by m out all lt (inl e) = here (λ of. out (subst (IsOf notes least) (sym e) of)) (λ k one. all k (subst (λ (j : ℕ). AreTogether notes j k) (sym e) one))
      by m out all lt (inr ne) = below.passed m (omega (arith, lt, ne)) out all

  -- its class is committed
  module _ (ended : (noted_at ms x).standing ≡ Ended) (all : AreEndedAll ms (joined_at ms (class_of ms x))) where
    x_live : (noted_at ms x).standing ≢ Vacant
    x_live = ended_live (noted_at ms x).standing ended

    x_out : IsOf notes least x → ⊥
    x_out = left_out x x_live

    was_live : (notes x).standing ≢ Vacant
    was_live none = x_live (ap (λ (n : Kept). n.standing) (below.stayed x x_out) ∙ none)

    pub x_named : ((noted_at ms (class_of ms x)).standing ≢ Vacant) × (class_of ms (class_of ms x) ≡ class_of ms x)
    x_named = below.sound.partition.named x x_live

    x_ended : (k : ℕ) → AreTogether notes x k → (notes k).standing ≡ Ended
    x_ended = all_ended x x_out was_live all

    x_first : (k : ℕ) → AreTogether notes x k → x ≤ k
    x_first k one = by (cases_lt k x)
      where
        by : (k < x) ⊎ (x ≤ k) → x ≤ k
        by (inr le) = le
        by (inl lt) = absurd (below.passed k lt (not_along x k x_out one) (λ j two. x_ended j (together_trans notes x k j one two)))

    x_least : IsLeast notes x
    x_least k one = (x_first k one, x_ended k one)

    less_there : (l : ℕ) → l < x → IsLeast notes l → Contains least l
    less_there l lt is = by (of_decided l)
      where
        by : IsOf notes least l ⊎ (IsOf notes least l → ⊥) → Contains least l
        by (inl (k, there, one)) = subst (Contains least) (least_one notes k l (below.first.each k there) is one) there
        by (inr out) = absurd (below.passed l lt out (λ k one. (is k one).1))

    abbrev more : List ℕ
    more = least ++ x ∷ []

    x_of : (m : ℕ) → class_of ms m ≡ class_of ms x → (IsOf notes least m → ⊥) → AreTogether notes x m
    x_of m same out = now_together x m x_out out (sym same)

    -- a page that the class put, as it is noted now
    put_now : (p : ℕ) → IsPutIn (class_of ms x) ms p → IsPutBy notes more p
    put_now p (m, is, has) =
        let out = has_out m p has in
        (m, of_last notes least x m (x_of m is out), subst (λ (n : Kept). Contains n.pages p) (below.stayed m out) has)

    put_out : (p : ℕ) → IsPutIn (class_of ms x) ms p → IsPutBy notes least p → ⊥
    put_out p (m, is, has) (k, of, had) =
        let out = has_out m p has in
        out (of_along notes least k m of (together_share notes k m p had (subst (λ (n : Kept). Contains n.pages p) (below.stayed m out) has)))

    now_put : (m p : ℕ) → AreTogether notes x m → Contains (notes m).pages p → IsPutIn (class_of ms x) ms p
    now_put m p one has = (m, still_class x m x_out one, subst (λ (n : Kept). Contains n.pages p) (sym (below.stayed m (not_along x m x_out one))) has)

    module _ (new : Classes D) (after : IsSoundClasses tells view new) (committed : CommitsClass tells view (class_of ms x) ms now.members.values (log_of now) (log_of new))
        (noted : new.members.noted ≡ vacated (class_of ms x) 0 ms)
        (none : (p : ℕ) → IsPutIn (class_of ms x) ms p → get_or new.members.values p None ≡ None)
        (others : (p : ℕ) → (IsPutIn (class_of ms x) ms p → ⊥) → get_or new.members.values p None ≡ get_or now.members.values p None)
        (still : IsQuiet (view (disk_of (log_of now))) (view (disk_of (log_of new)))) where
      noted_in : (m : ℕ) → class_of ms m ≡ class_of ms x → noted_at new.members.noted m ≡ vacant m
      noted_in m is = ap (λ (l : List Kept). noted_at l m) noted ∙ vacated_in (class_of ms x) m ms is

      noted_out : (m : ℕ) → class_of ms m ≢ class_of ms x → noted_at new.members.noted m ≡ noted_at ms m
      noted_out m is = ap (λ (l : List Kept). noted_at l m) noted ∙ vacated_out (class_of ms x) m ms is

      gone_more : (m : ℕ) → IsOf notes least m ⊎ AreTogether notes x m → noted_at new.members.noted m ≡ vacant m
      gone_more m (inr one) = noted_in m (still_class x m x_out one)
      gone_more m (inl of) = by (cases_eq (class_of ms m) (class_of ms x))
        where
          by : (class_of ms m ≡ class_of ms x) ⊎ (class_of ms m ≡ class_of ms x → ⊥) → noted_at new.members.noted m ≡ vacant m
          by (inl is) = noted_in m is
          by (inr other) = noted_out m other ∙ below.gone m of

      stayed_more : (m : ℕ) → (IsOf notes more m → ⊥) → noted_at new.members.noted m ≡ noted_at start m
      stayed_more m out =
          let earlier : IsOf notes least m → ⊥ = λ of. out (of_more notes least x m of) in
          noted_out m (λ is. out (of_last notes least x m (x_of m is earlier))) ∙ below.stayed m earlier

      put_more : (m p : ℕ) → IsOf notes least m ⊎ AreTogether notes x m → Contains (notes m).pages p → get_or new.members.values p None ≡ None
      put_more m p (inl of) has = others p (λ by. put_out p by (m, of, has)) ∙ below.put p (m, of, has)
      put_more m p (inr one) has = none p (now_put m p one has)

      less_put : (p : ℕ) → (IsPutBy notes more p → ⊥) → IsPutBy notes least p → ⊥
      less_put p out (m, of, has) = out (m, of_more notes least x m of, has)

      kept_more : (p : ℕ) → (IsPutBy notes more p → ⊥) → get_or new.members.values p None ≡ get_or old.members.values p None
      kept_more p out = others p (λ by. out (put_now p by)) ∙ below.kept p (less_put p out)

      -- the value of a page is the same until its class is committed
      x_value : (m p : ℕ) → AreTogether notes x m → Contains (notes m).pages p → get_or now.members.values p None ≡ get_or old.members.values p None
      x_value m p one has = below.kept p (λ (k, of, had). put_out p (now_put m p one has) (k, of, had))

      value_bytes : (o : Option Value) (bytes : List ℕ) → bytes_in o ≡ Some bytes → (value : Value) × (o ≡ Some value) × (value.bytes ≡ bytes)
      value_bytes None bytes is = absurd (cc)
      value_bytes (Some value) bytes is = (value, refl, cc)

      shows_put : tells → (m p : ℕ) (bytes : List ℕ) → p < (state_of (log_of old)).half.pages → IsOf notes least m ⊎ AreTogether notes x m → Contains (notes m).pages p → value_of old p ≡ Some bytes
          → page_in (contents_of view (log_of new)) p ≡ bytes
      shows_put told m p bytes lt (inl of) has is = committed.kept told p (λ by. put_out p by (m, of, has)) ∙ (below.shows told).puts p bytes lt (m, of, has) is
      shows_put told m p bytes lt (inr one) has is =
          let value = value_bytes (get_or old.members.values p None) bytes is in
          committed.put told p value.0 (now_put m p one has) (x_value m p one has ∙ value.1) ∙ value.2

      shows_more : tells → ShowsPuts notes (value_of old) more (state_of (log_of old)).half.pages (page_in (contents_of view (log_of old))) (page_in (contents_of view (log_of new)))
      shows_more told = record {
        puts = λ p bytes lt by is. shows_put told by.0 p bytes lt (of_push notes least x by.0 by.1) by.2 is;
        rest = λ p lt out. committed.kept told p (λ by. out (put_now p by)) ∙ (below.shows told).rest p lt (less_put p out);
      }

      first_more : AreFirst notes more
      first_more = first_push notes least x below.first below.under x_least less_there

      same_half : (state_of (log_of now)).half.pages ≡ (state_of (log_of old)).half.pages
      same_half = ap (λ (h : Half). h.pages) below.half

      stage_more : tells → (k : ℕ) → k ≤ last_stage (contents_of view (log_of new)) → (k ≤ last_stage (contents_of view (log_of now))) ⊎ (k ≤ last_stage (contents_of view (log_of now)) → ⊥) → IsStageBy view old k (stage_in (contents_of view (log_of new)) k)
      stage_more told k le (inl before) =
          stage_same view old k (stage_in (contents_of view (log_of now)) k) (stage_in (contents_of view (log_of new)) k)
          (λ p lt. committed.keeps.stages told k p before (omega (arith, lt, same_half))) (below.stages told k before)
      stage_more told k le (inr past) =
          let last = committed.keeps.last in
          let later = below.later in
          let is : k ≡ last_stage (contents_of view (log_of new)) = omega (arith, le, past, last) in
          inr (
            omega (arith, past, later),
            (
              more,
              first_more,
              shows_same notes (value_of old) more (state_of (log_of old)).half.pages (page_in (contents_of view (log_of old))) (page_in (contents_of view (log_of new))) (stage_in (contents_of view (log_of new)) k)
                  (λ p lt. ap (λ (j : ℕ). stage_in (contents_of view (log_of new)) j p) is ∙ idle_last tells view (log_of new) after.idle told p) (shows_more told),
            ),
          )

      le_or_not : (a b : ℕ) → (a < b) ⊎ (b ≤ a) → (b ≤ a) ⊎ (b ≤ a → ⊥)
      le_or_not a b (inr le) = inl le
      le_or_not a b (inl lt) = inr (λ le. absurd (omega (arith, lt, le)))

      under_more : (l : ℕ) → Contains more l → l < x + 1
      under_more l there = by (first_more.each l there) (Contains-push_cases least x l there)
        where
          by : IsLeast notes l → Contains least l ⊎ (x ≡ l) → l < x + 1
          by is (inl before) = let lt = below.under l before in omega (arith, lt)
          by is (inr e) = omega (arith, e)

      passed_more : (m : ℕ) → m < x + 1 → (IsOf notes more m → ⊥) → ((k : ℕ) → AreTogether notes m k → (notes k).standing ≡ Ended) → ⊥
      passed_more m lt out every = by (cases_eq m x)
        where
          by : (m ≡ x) ⊎ (m ≡ x → ⊥) → ⊥
          by (inl e) = out (of_last notes least x m (λ part joins. ap part (sym e)))
          by (inr ne) = below.passed m (omega (arith, lt, ne)) (λ of. out (of_more notes least x m of)) every

      pub below_more : Below tells view old (x + 1) more new
      below_more = record {
        sound = after;
        size = ap length noted ∙ length_vacated (class_of ms x) 0 ms ∙ below.size;
        first = first_more;
        under = under_more;
        passed = passed_more;
        gone = λ m of. gone_more m (of_push notes least x m of);
        stayed = stayed_more;
        put = λ p by. put_more by.0 p (of_push notes least x by.0 by.1) by.2;
        kept = kept_more;
        shows = shows_more;
        superblock = committed.keeps.superblock ∙ below.superblock;
        half = committed.keeps.half ∙ below.half;
        later = (let a = committed.keeps.last in let b = below.later in omega (arith, a, b));
        stages = λ told k le. stage_more told k le (le_or_not (last_stage (contents_of view (log_of now))) k (cases_lt (last_stage (contents_of view (log_of now))) k));
        quiet = quiet_then below.quiet still;
        counted = (let a = below.counted in let b = committed.keeps.counted in omega (arith, a, b));
      }

  -- what was committed so far
  pub goes_below : Goes tells view least old now
  goes_below = record {
    commits = record {
      first = below.first;
      commits = record {
        gone = λ m of. ap note_of (below.gone m of);
        stayed = λ m out. ap note_of (below.stayed m out);
        put = λ p by. ap bytes_in (below.put p by);
        kept = λ p out. ap bytes_in (below.kept p out);
      };
      pages = below.shows;
    };
    superblock = below.superblock;
    half = below.half;
    later = below.later;
    stages = below.stages;
  }

  -- and at the end
  pub all_there : length start ≤ x → (l : ℕ) → IsLeast notes l → Contains least l
  all_there le l is = by (cases_lt l x) (of_decided l)
    where
      standing : (notes l).standing ≡ Ended
      standing = (is l (λ part joins. refl)).1

      by : (l < x) ⊎ (x ≤ l) → IsOf notes least l ⊎ (IsOf notes least l → ⊥) → Contains least l
      by any (inl (k, there, one)) = subst (Contains least) (least_one notes k l (below.first.each k there) is one) there
      by (inl lt) (inr out) = absurd (below.passed l lt out (λ k one. (is k one).1))
      by (inr past) (inr out) = absurd (ended_live (notes l).standing standing (ap (λ (n : Kept). n.standing) (noted_past start l (omega (arith, le, past)))))

-- the class of a number, under the name that is kept of it
pub committed_more : {D : Type 0} (tells : Type 0) (view : D → View) (old : Classes D) (sound : IsSoundClasses tells view old) (x : ℕ) (least : List ℕ) (now : Classes D) (below : Below tells view old x least now)
    (class : ℕ) → class ≡ class_of now.members.noted x → (noted_at now.members.noted x).standing ≡ Ended → AreEndedAll now.members.noted (joined_at now.members.noted class) → (new : Classes D) → IsSoundClasses tells view new
    → CommitsClass tells view class now.members.noted now.members.values (log_of now) (log_of new) → new.members.noted ≡ vacated class 0 now.members.noted
    → ((p : ℕ) → IsPutIn class now.members.noted p → get_or new.members.values p None ≡ None)
    → ((p : ℕ) → (IsPutIn class now.members.noted p → ⊥) → get_or new.members.values p None ≡ get_or now.members.values p None)
    → IsQuiet (view (disk_of (log_of now))) (view (disk_of (log_of new))) → Below tells view old (x + 1) (least ++ x ∷ []) new
committed_more {D} tells view old sound x least now below class is ended =
    subst (λ (k : ℕ). AreEndedAll now.members.noted (joined_at now.members.noted k) → (new : Classes D) → IsSoundClasses tells view new
    → CommitsClass tells view k now.members.noted now.members.values (log_of now) (log_of new) → new.members.noted ≡ vacated k 0 now.members.noted
    → ((p : ℕ) → IsPutIn k now.members.noted p → get_or new.members.values p None ≡ None)
    → ((p : ℕ) → (IsPutIn k now.members.noted p → ⊥) → get_or new.members.values p None ≡ get_or now.members.values p None)
    → IsQuiet (view (disk_of (log_of now))) (view (disk_of (log_of new))) → Below tells view old (x + 1) (least ++ x ∷ []) new)
    (sym is) (λ all new. below_more tells view old sound x least now below ended all new)

-- a number that is passed, under that name too
pub number_passed : {D : Type 0} (tells : Type 0) (view : D → View) (old : Classes D) (sound : IsSoundClasses tells view old) (x : ℕ) (least : List ℕ) (now : Classes D) (below : Below tells view old x least now)
    (class : ℕ) → class ≡ class_of now.members.noted x → ((noted_at now.members.noted x).standing ≡ Ended → AreEndedAll now.members.noted (joined_at now.members.noted class) → ⊥) → Below tells view old (x + 1) least now
number_passed tells view old sound x least now below class is absent =
    below_passed tells view old sound x least now below (subst (λ (k : ℕ). (noted_at now.members.noted x).standing ≡ Ended → AreEndedAll now.members.noted (joined_at now.members.noted k) → ⊥) is absent)

-- the same members over a log in the same state
pub goes_same : {D : Type 0} (tells : Type 0) (view : D → View) (old now new : Classes D) (least : List ℕ) → Goes tells view least old now → state_of (log_of new) ≡ state_of (log_of now) → new.members ≡ now.members
    → IsQuiet (view (disk_of (log_of now))) (view (disk_of (log_of new))) → Goes tells view least old new
goes_same tells view old now new least goes state members still =
    let same : contents_of view (log_of new) ≡ contents_of view (log_of now) = contents_same view (log_of now) (log_of new) state still in
    record {
      commits = record {
        first = goes.commits.first;
        commits = record {
          gone = λ m of. ap (λ (ms : Members). notes_in ms.noted m) members ∙ goes.commits.commits.gone m of;
          stayed = λ m out. ap (λ (ms : Members). notes_in ms.noted m) members ∙ goes.commits.commits.stayed m out;
          put = λ p by. ap (λ (ms : Members). bytes_in (get_or ms.values p None)) members ∙ goes.commits.commits.put p by;
          kept = λ p out. ap (λ (ms : Members). bytes_in (get_or ms.values p None)) members ∙ goes.commits.commits.kept p out;
        };
        pages = λ told. subst (λ (c : Contents). ShowsPuts (notes_of old) (value_of old) least (state_of (log_of old)).half.pages (page_in (contents_of view (log_of old))) (page_in c)) (sym same) (goes.commits.pages told);
      };
      superblock = ap (λ (s : State). s.superblock) state ∙ goes.superblock;
      half = ap (λ (s : State). s.half) state ∙ goes.half;
      later = subst (λ (c : Contents). last_stage (contents_of view (log_of old)) ≤ last_stage c) (sym same) goes.later;
      stages = λ told. subst (λ (c : Contents). (k : ℕ) → k ≤ last_stage c → IsStageBy view old k (stage_in c k)) (sym same) (goes.stages told);
    }
