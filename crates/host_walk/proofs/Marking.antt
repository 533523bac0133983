-- Needs that are marked one after the other.
use Rattle.std.proofs.Common.{◌≡◌, ◌<◌, ◌+◌, ℕ, List, [], ◌∷◌, ◌++◌, length, take, get_or, refl, sym, ap, ◌∙◌}
use Rattle.std.proofs.Common.{append_assoc}
use Rattle.std.proofs.Math.Seq.{take-length}
use Rattle.std.proofs.lemmas.List.{take_more}
use Rattle.base_types.specs.declared.ids.Fid.{Fid}
use Rattle.base_types.specs.declared.user.User.{User}
use Rattle.token_types.specs.declared.token.Need.{Need}
use Rattle.need_host.specs.Looks.{View}
use Rattle.host_cache.specs.Holding.{used_each}
use Rattle.host_cache.specs.Seen.{Seen, after_used}
use Rattle.host_walk.specs.Marks.{marked_on, marks_of, used_all, way_of}
use Rattle.host_walk.specs.Trying.{status_need, whole_need}
use Rattle.host_walk.specs.declared.marks.Onward.{Onward}
use Rattle.host_walk.specs.declared.marks.Onward.TheVariants.{Ends, Misses, Leads}

pub used_append : (first second : List Need) (shown : Seen) →
    used_all (first ++ second) shown ≡ used_all second (used_all first shown)
used_append [] second shown = refl
used_append (need ∷ needs) second shown = used_append needs second (after_used shown need)

pub used_more : (needs : List Need) (i : ℕ) (need : Need) (first shown : Seen) → i < length needs →
    need ≡ get_or needs i need → shown ≡ used_all (take i needs) first →
    after_used shown need ≡ used_all (take (i + 1) needs) first
used_more needs i need first shown low is e =
    ap (λ s. after_used s need) e
    ∙ sym (ap (λ ns. used_all ns first) (take_more needs i need low ∙ ap (λ n. take i needs ++ n ∷ []) (sym is))
    ∙ used_append (take i needs) (need ∷ []) first)

pub used_whole : (needs : List Need) (first : Seen) →
    used_all (take (length needs) needs) first ≡ used_all needs first
used_whole needs first = ap (λ ns. used_all ns first) (take-length needs)

module _ (view : View) (user : User) (needs : List Need) (at : Fid) (path : List (List ℕ)) (shown : Seen) where
  pub marks_here : path ≡ [] →
      used_all (status_need at ∷ needs) shown ≡ used_all (marks_of view user needs path at) shown
  marks_here e = sym (ap (λ p. used_all (marks_of view user needs p at) shown) e)

  module _ (name : List ℕ) (rest : List (List ℕ)) (is : path ≡ name ∷ rest) where
    marks_by : (way : Onward) → way ≡ way_of view user at name →
        used_all (marked_on at (marks_of view user needs rest) way) shown
        ≡ used_all (marks_of view user needs path at) shown
    marks_by way e =
        ap (λ w. used_all (marked_on at (marks_of view user needs rest) w) shown) e
        ∙ sym (ap (λ p. used_all (marks_of view user needs p at) shown) is)

    pub marks_end : Ends ≡ way_of view user at name →
        after_used shown (status_need at) ≡ used_all (marks_of view user needs path at) shown
    marks_end e = marks_by Ends e

    pub marks_miss : Misses ≡ way_of view user at name →
        used_all (status_need at ∷ whole_need at ∷ []) shown ≡ used_all (marks_of view user needs path at) shown
    marks_miss e = marks_by Misses e

    pub marks_lead : (fid : Fid) → Leads fid ≡ way_of view user at name →
        used_all (status_need at ∷ whole_need at ∷ []) (used_all (marks_of view user needs rest fid) shown)
        ≡ used_all (marks_of view user needs path at) shown
    marks_lead fid e =
        sym (used_append (marks_of view user needs rest fid) (status_need at ∷ whole_need at ∷ []) shown)
        ∙ marks_by (Leads fid) e

-- as the cache says it
pub used_as_each : (needs : List Need) (shown : Seen) →
    used_all needs shown ≡ record shown { held = used_each needs shown.held }
used_as_each [] shown = refl
used_as_each (need ∷ needs) shown = used_as_each needs (after_used shown need)

-- ---- the needs at the end of a way, put down behind others
pub put_more : (before : List Need) (at : Fid) (needs : List Need) (i : ℕ) (need : Need) → i < length needs →
    need ≡ get_or needs i need →
    (before ++ status_need at ∷ take i needs) ++ need ∷ [] ≡ before ++ status_need at ∷ take (i + 1) needs
put_more before at needs i need low is =
    append_assoc before (status_need at ∷ take i needs) (need ∷ [])
    ∙ ap (λ ns. before ++ status_need at ∷ ns)
    (sym (take_more needs i need low ∙ ap (λ n. take i needs ++ n ∷ []) (sym is)))
