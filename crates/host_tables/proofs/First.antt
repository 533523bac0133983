-- A machine before its first step stands for no steps.
use Rattle.std.proofs.Common.{[]}
use Rattle.base_types.specs.declared.ids.ServerId.{ServerId}
use Rattle.host_tables.specs.Stands.{SiteStands}
use Rattle.host_tables.specs.Tables.{fresh_site, site_at}
use Rattle.host_tables.specs.declared.sites.Site.{Site}
use Rattle.std.specs.declared.alloc.Global.{Global}
use Rattle.base_types.specs.Ids.{same_fid}
use Rattle.base_types.specs.Image.{byte_at}
use Rattle.base_types.specs.Spans.{in_spans}
use Rattle.base_types.specs.declared.ids.Fid.{Fid}
use Rattle.base_types.specs.declared.ids.HostId.{HostId}
use Rattle.base_types.specs.declared.user.User.{User}
use Rattle.host_cache.specs.Holding.{tokens_of}
use Rattle.host_cache.specs.Seen.{Kept, file_at as file_at_in, shows as shows_in}
use Rattle.host_cache.specs.declared.held.Held.{Held}
use Rattle.host_dirty.specs.Dirtiness.{file_at, is_dirty as is_dirty_in}
use Rattle.host_dirty.specs.Files.{clean}
use Rattle.host_dirty.specs.declared.dirty.Dirty.{Dirty}
use Rattle.host_dirty.specs.declared.file.DirtyFile.{DirtyFile}
use Rattle.host_tables.proofs.Lists.{in_any, in_map, in_right, none_in}
use Rattle.host_tables.specs.Beginning.{new_tables}
use Rattle.host_tables.specs.Machine.{Rests}
use Rattle.host_tables.specs.Stands.{Stands}
use Rattle.host_tables.specs.Tables.{content, is_shown_by}
use Rattle.host_tables.specs.declared.tables.Tables.{Tables}
use Rattle.need_host.specs.Shows.{shows}
use Rattle.run_rules.specs.Messages.{stay_of}
use Rattle.run_rules.specs.Past.{In}
use Rattle.run_rules.specs.Steps.{limit_of}
use Rattle.script_lines.specs.declared.script.Script.{Script}
use Rattle.std.proofs.Common.{List, None, Some, ap, false, if◌then◌else◌, inl, map, refl, subst, sym, true}
use Rattle.std.proofs.Common.{unwrap_or, ℕ, ◌&&◌, ◌∷◌, ◌≡◌}
use Rattle.token_types.specs.Conflicts.{need_of}
use Rattle.token_types.specs.declared.token.Need.{Need}
use Rattle.token_types.specs.declared.token.Token.{Token}
use Rattle.tree_calls.specs.Rosters.{user_of}
use Rattle.tree_laws.specs.Parts.{Part}
use Rattle.tree_laws.specs.Parts.Part.{ByteAt}

byte_none : (cache : Kept) (fid : Fid) (at : ℕ) → cache.held ≡ [] → content cache fid (ByteAt at) ≡ 0
byte_none cache fid at e =
    ap (λ (held : List Held). unwrap_or (if shows_in held fid at then Some (byte_at (file_at_in cache fid).bytes at)
    else None) 0) e

module _ (script : Script) (host : HostId) (user : User) (limit : ℕ) (cache : Kept) (dirty : Dirty)
    (alloc : Global) (sites : List Site) (unknown : (v : ServerId) → site_at sites v ≡ fresh_site v) (empty : cache.held
    ≡ [])
    (clean_all : (fid : Fid) → file_at dirty fid ≡ clean) (acts_for : user_of script.roster host ≡ Some user)
    (limited : limit ≡ limit_of script.roster host) where
  abbrev m : Tables
  m = new_tables alloc host user limit cache dirty sites

  none_held : (h : Held) → In h cache.held → ⊥
  none_held h i = none_in cache.held empty h i

  none_token : (t : Token) → In t (tokens_of cache.held) → ⊥
  none_token t i = let r = in_map (λ (h : Held). h.token) cache.held t i in none_held r.0 r.1

  none_shown : (fid : Fid) (part : Part) → is_shown_by (tokens_of cache.held) fid part ≡ true → ⊥
  none_shown fid part e =
      let r = in_any (λ (n : Need). same_fid n.fid fid && shows n.kind part) (map need_of (tokens_of cache.held)) e in
      let x = in_map need_of (tokens_of cache.held) r.0 r.1 in none_token x.0 x.1

  none_dirty : (fid : Fid) (at : ℕ) → is_dirty_in dirty fid at ≡ false
  none_dirty fid at = ap (λ (file : DirtyFile). in_spans file.spans at) (clean_all fid)

  pub stands : Stands script m []
  stands = record {
    user = acts_for;
    limit = limited;
    live = λ d. elim d.3 [ ];
    cache = record {
      held = λ t i. absurd (none_token t i);
      cached = λ t h. elim h [ ];
      owned = λ t i. absurd (none_token t i);
      owns = λ t o. elim o [ ];
      once = λ t u i. absurd (none_token t i);
      marked = λ h i. absurd (none_held h i);
      unmarked = λ h i. absurd (none_held h i);
      tells = λ h i. absurd (none_held h i);
    };
    contents = record {
      agrees = λ fid part e. absurd (none_shown fid part e);
      beyond = λ fid at far. byte_none cache fid at empty;
      zero = λ fid at far. byte_none cache fid at empty;
    };
    order = λ before behind late early e i.
        absurd (none_held late (subst (In late) (sym e) (in_right before (late ∷ behind) late (inl refl))));
    dirty = record {
      bytes = λ fid at. none_dirty fid at;
      under = λ fid at d. absurd (cc);
      inside = λ fid at d. absurd (cc);
    };
    lengths = record { some = λ fid given e. absurd (cc); all = λ fid g l. elim l [ ] };
    uses = record {
      used = λ u i. elim i [ ];
      labels = λ u i. elim i [ ];
      held = λ u i. elim i [ ];
      kinds = λ u i. elim i [ ];
      pinned = λ u i. elim i [ ];
      kept = λ u i. elim i [ ];
      kept_used = λ i k. elim k [ ];
      anew = tt;
      kept_ever = λ i k. elim k [ ];
      order = λ before behind first later e i t. elim t [ ];
    };
    labels = record { locks = tt; opens = tt };
    gives = record {
      made = λ x i. elim i [ ];
      all = λ g i. elim i [ ];
      one = λ g k i. elim i [ ];
      last = λ g i. elim i [ ];
      counted = λ fs. inl refl;
    };
    leaving = record {
      tokens = λ g i k. elim k [ ];
      from = λ x i. elim i [ ];
      ends = λ u e. absurd (cc);
      ended = λ u g b. elim b [ ];
      one = λ g k a b x. elim x [ ];
      uses = λ g a x. elim x [ ];
    };
    floors = record { above = λ fid x a. a; floor = λ fid x a. a };
    sites = λ v. subst (λ (site : Site). SiteStands site v []) (sym (unknown v)) (record {
      epoch = refl;
      greeted = (λ e. absurd (cc), λ g. elim g.2 [ ]);
      welcome = (λ e. absurd (cc), λ w. elim w [ ]);
      claimed = (λ e. absurd (cc), λ c. elim c [ ]);
      said_bye = (λ e. absurd (cc), λ g. elim g.2 [ ]);
      has_bye = (λ e. absurd (cc), λ w. elim w [ ]);
    });
    request = record {
      fetch = λ f e. absurd (cc);
      change = λ v c e. absurd (cc);
      asking = λ fs n a. elim a [ ];
      changing = λ v fs n a. elim a [ ];
      one_fetch = λ f k a. elim a.3 [ ];
      one_change = λ v c d a. elim a.3 [ ];
      entering = λ v c w name e. absurd (cc);
    };
    numbers = record {
      fetches = λ fs n x. elim x.1.3 [ ];
      fetch_last = λ fs. inl refl;
      changes = λ v fs n x. elim x.1.3 [ ];
      change_last = λ v fs. inl refl;
    };
    homes = record { seen = λ v name id. (λ e. absurd (cc), λ e. elim e [ ]) };
    call = record { is_open = λ c e. absurd (cc); asked = λ c o. elim o [ ]; begun = refl };
    lost = λ c e. absurd (cc);
    parted = λ v b. elim b.2 [ ];
  }

  pub rests : Rests script m []
  rests = record {
    stands = stands;
    rest = record {
      stuck = λ c e. absurd (cc);
      synced = λ c stay_of fid t e. absurd (cc);
      freed = λ c u e. absurd (cc);
      waits = λ c e. absurd (cc);
      alone = λ e. refl;
    };
  }
