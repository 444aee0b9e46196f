-- The facts about paths that a folder with a listing states.
use Rattle.std.proofs.Common.{◌≡◌, ℕ, List, Option, Some}
use Rattle.std.specs.Option.{option_copied}
use Rattle.complgen_c.specs.Listings.{HoldsListing, Listing, facts_of, listing_of}
use Rattle.complgen_c.specs.declared.listed.Listed.{Listed}

pub same_facts : (listing : Listing) (home : Option (List ℕ)) (listed : Listed)
    → HoldsListing listing home listed
    → facts_of (listing_of listed) (option_copied listed.home) ≡ facts_of listing home
same_facts listing home listed holds = λ i. record {
  names = λ path names. (path ≡ holds.path_same i) × (names ≡ Some (holds.names_same i));
  is_dir = λ path is. is ≡ holds.folders_same path i;
  is_file = λ path is. is ≡ holds.files_same path i;
  is_executable = λ path is. is ≡ holds.files_same path i;
  home = holds.home_same i;
}
