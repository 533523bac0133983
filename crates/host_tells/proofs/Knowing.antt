-- A file that is known: where a Read of it looks, and that it marks nothing anew.
use Rattle.std.proofs.Common.{◌≡◌, ◌+◌, ◌∙◌, ◌∷◌, List, MatchOption, Ok, Option, []}
use Rattle.std.proofs.Common.{ap, arith, false, if◌then◌else◌, length, refl, subst, sym, ℕ}
use Rattle.std.proofs.lemmas.Bool.{lt-ltb}
use Rattle.base_types.specs.declared.ids.Fid.{Fid}
use Rattle.base_types.specs.declared.span.Span.{Span}
use Rattle.base_types.specs.declared.user.User.{User}
use Rattle.host_cache.specs.Seen.{seen}
use Rattle.host_calls.proofs.Judged.{read_finds}
use Rattle.host_calls.proofs.Marked.{covers_stays}
use Rattle.host_calls.specs.Answering.{MarksUsed, last_needs, way_of}
use Rattle.host_calls.specs.Looking.{AreSized, AreUses, Walked, WalksSo, path_look}
use Rattle.host_calls.specs.declared.looking.Verdict.TheVariants.{Reads}
use Rattle.host_tables.specs.Stands.{look_from}
use Rattle.host_tables.specs.Tables.{content, held_of, home_of}
use Rattle.host_tables.specs.declared.tables.Tables.{Tables}
use Rattle.host_tells.proofs.Marking.{content_stays, used_again}
use Rattle.host_tells.proofs.Speaking.{comes_to, counted_so}
use Rattle.host_tells.specs.Knows.{IsFound, IsKnown, IsWithin, LeadsThere, blocks_need}
use Rattle.host_tells.specs.Spoken.{ComesTo, SpeaksAtOnce, SpeaksCounted, StaysSilent, told_place}
use Rattle.host_tells.specs.declared.last.Known.{Known}
use Rattle.host_walk.proofs.Blocks.{blocks_of_all}
use Rattle.host_walk.proofs.Reading.{blocks_from_span, read_found, span_covered}
use Rattle.host_walk.specs.Bytes.{CoverBlocks, read_count}
use Rattle.host_walk.specs.Marks.{marks_of, used_all}
use Rattle.host_walk.specs.Trying.{Finds, status_need}
use Rattle.need_host.specs.Calls.{call_look, from_root, read_look}
use Rattle.need_host.specs.Looks.{CoverAll, View, needs_of, outcome, rounded}
use Rattle.need_host.specs.Walks.{permitted_look, walk_look}
use Rattle.token_types.specs.Covers.{Covers, CoversBetween}
use Rattle.token_types.specs.declared.token.Kind.TheVariants.{Bytes}
use Rattle.token_types.specs.declared.token.Need.{Need}
use Rattle.tree_calls.specs.declared.call.Call.{Call}
use Rattle.tree_calls.specs.declared.call.Call.TheVariants.{Read}
use Rattle.tree_calls.specs.declared.place.Place.{Place}
use Rattle.tree_filesets.specs.Rights.{read_right}
use Rattle.tree_laws.specs.Parts.Part.{Size}
use Rattle.tree_objects.specs.Spans.{span_between}

-- ---- where the call begins
from_home : (m : Tables) (place : Place) (from len : ℕ) (known : Known) → LeadsThere m place known →
    look_from m (Read place from len) ≡ path_look m (Read place from len) known.root place.path
unfolding call_look
from_home m place from len known leads =
    ap (λ o. from_root place.server o (λ root. read_look m.user root place.path from len)) leads.entered
    ∙ ap (λ root. read_look m.user root place.path from len) (sym leads.root)

pub walks_there : (m : Tables) (call : Call) (place : Place) (from len : ℕ) → call ≡ Read place from len →
    (known : Known) → LeadsThere m place known → WalksSo m call known.root place.path
walks_there m call place from len is known leads = λ uses.
    subst (λ (k : Call). look_from m k ≡ path_look m k known.root place.path) (sym is)
    (from_home m place from len known leads)

-- ---- the bytes that are read
module _ (m : Tables) (place : Place) (known : Known) (found : IsFound m place known) (from len : ℕ) (span : Span)
    (within : IsWithin known from len span) where
  abbrev leads : LeadsThere m place known
  leads = found.leads

  abbrev count : ℕ
  count = read_count from len (content m.cache known.fid Size)

  span_is : span ≡ span_between from (from + count)
  span_is = within.span_is ∙ ap (λ size. span_between from (from + read_count from len size)) (sym leads.size)

  cover : CoverBlocks (held_of m) known.fid span.from span.to
  cover =
      let to_is = ap (λ (s : Span). s.to) span_is in
      blocks_of_all (held_of m) known.fid span.from span.to (omega (arith, to_is))
      (subst (λ b. Covers (held_of m) (record { fid = known.fid; kind = Bytes false b })) (sym within.blocks)
      found.blocks)

  pub span_covers : CoversBetween (held_of m) known.fid false span.from span.to
  span_covers = span_covered (held_of m) known.fid from count span span_is cover

  walked : Walked m (Read place from len) known.root place.path (Ok (Reads known.fid span))
  walked =
      read_finds m.cache m.user known.root place.path (Read place from len) from len known.fid span
      (read_found (held_of m) (content m.cache) m.user known.root place.path from len known.fid leads.nature
      leads.found leads.status (blocks_from_span (held_of m) known.fid from count span span_is cover))
      span_is

  module _ (call : Call) (is : call ≡ Read place from len) where
    pub comes_there : ComesTo m call known.root place.path (Ok (Reads known.fid span))
    comes_there =
        subst (λ (k : Call). ComesTo m k known.root place.path (Ok (Reads known.fid span))) (sym is)
        (comes_to m (Read place from len) known.root place.path (Reads known.fid span) walked (leads.walked, span_is))

    pub needs_there : last_needs m (Ok (Reads known.fid span)) ≡ blocks_need known ∷ []
    needs_there =
        ap (λ b. if b then record { fid = known.fid; kind = Bytes false (rounded span.from span.to) } ∷ [] else [])
        (lt-ltb span.from span.to within.some)
        ∙ ap (λ s. record { fid = known.fid; kind = Bytes false s } ∷ []) within.blocks

    pub way_there : way_of m call known.root place.path ≡ place.path
    way_there = ap (λ (k : Call). way_of m k known.root place.path) is

    pub told_there : AreUses m → AreSized m.cache → (begun : ℕ) → begun ≡ m.begun + 1 → (old out : List ℕ) →
        (after : Tables) (result : Option ℕ) → SpeaksCounted m call known.root place.path begun old out after result →
        MatchOption result (StaysSilent m after call (length old)) (λ n. SpeaksAtOnce m after call out n)
    told_there uses sized begun begun_is old out after result s =
        counted_so m call place (ap told_place is) uses sized known.root place.path
        (walks_there m call place from len is known leads) begun begun_is old out after result s

    -- what marking gives
    abbrev there : List Need
    there = marks_of (content m.cache) m.user (blocks_need known ∷ []) place.path known.root

    there_is : marks_of (content m.cache) m.user (last_needs m (Ok (Reads known.fid span)))
        (way_of m call known.root place.path) known.root ≡ there
    there_is = λ i. marks_of (content m.cache) m.user (needs_there i) (way_there i) known.root

    pub marks_nothing : used_all there (seen m.cache) ≡ seen m.cache →
        MarksUsed m call known.root place.path (Ok (Reads known.fid span)) m
    marks_nothing e = record {
      shown = sym e ∙ ap (λ ns. used_all ns (seen m.cache)) (sym there_is);
      tables = refl;
    }

    module _ (new : Tables) (marks : MarksUsed m call known.root place.path (Ok (Reads known.fid span)) new) where
      shown : seen new.cache ≡ used_all there (seen m.cache)
      shown = marks.shown ∙ ap (λ ns. used_all ns (seen m.cache)) there_is

      view_is : content new.cache ≡ content m.cache
      view_is = content_stays m.cache new.cache there shown

      user_is : new.user ≡ m.user
      user_is = ap (λ (t : Tables). t.user) marks.tables

      need_stays : (need : Need) → Covers (held_of m) need → Covers (held_of new) need
      need_stays need c = covers_stays m new there shown need.fid need.kind c

      all_stay : (needs : List Need) → CoverAll (held_of m) needs → CoverAll (held_of new) needs
      all_stay [] c = tt
      all_stay (need ∷ needs) c = (need_stays need c.0, all_stay needs c.1)

      found_new : IsFound new place known
      found_new = record {
        leads = record {
          id = leads.id;
          entered = ap (λ (t : Tables). home_of t.homes place.server place.fileset) marks.tables ∙ leads.entered;
          root = leads.root;
          nature = leads.nature;
          found = subst (λ (u : User). Finds (held_of new) (content new.cache)
              (permitted_look u known.root place.path read_right) (known.fid, leads.nature)) (sym user_is)
              (subst (λ (v : View). Finds (held_of new) v
              (permitted_look m.user known.root place.path read_right) (known.fid, leads.nature)) (sym view_is)
              (record {
                covered = all_stay
                    (needs_of (content m.cache) (permitted_look m.user known.root place.path read_right))
                    leads.found.covered;
                ends = leads.found.ends;
              }));
          walked = (λ i. outcome (view_is i) (walk_look (user_is i) known.root place.path)) ∙ leads.walked;
          status = need_stays (status_need known.fid) leads.status;
          size = ap (λ (v : View). v known.fid Size) view_is ∙ leads.size;
        };
        blocks = need_stays (blocks_need known) found.blocks;
      }

      pub known_new : IsKnown new place known
      known_new = record {
        found = found_new;
        marked =
            (λ i. used_all (marks_of (view_is i) (user_is i) (blocks_need known ∷ []) place.path known.root)
            (shown i))
            ∙ used_again there (seen m.cache) ∙ sym shown;
      }

-- ---- a call that is counted
pub counted_known : (m : Tables) (place : Place) (known : Known) (begun : ℕ) (lost : List Fid) → IsKnown m place known →
    IsKnown (record m { begun = begun; lost = lost }) place known
counted_known m place known begun lost it = record {
  found = record {
    leads = record {
      id = it.found.leads.id;
      entered = it.found.leads.entered;
      root = it.found.leads.root;
      nature = it.found.leads.nature;
      found = it.found.leads.found;
      walked = it.found.leads.walked;
      status = it.found.leads.status;
      size = it.found.leads.size;
    };
    blocks = it.found.blocks;
  };
  marked = it.marked;
}
