-- Definitions of what is copied of the loaders of a server.
use Rattle.std.specs.Prelude.{ℕ, ◌≡◌, List, length, map, Result, OnOk}
use Rattle.std.specs.List.{flat_map}
use Rattle.flat_orders.specs.Written.{size_of}
use Rattle.plan_requests.specs.Servers.{ServerOf}
use Rattle.host_clients.specs.LoaderTexts.{kind_of, texts_of}
use Rattle.host_clients.specs.declared.fault.Fault.{Fault}
use Rattle.rudzkvano_c.specs.declared.servers.LoaderSizes.{LoaderSizes}

-- the kind of each, and the texts of all
pub record AreLoaders (s : ServerOf) (kinds : List ℕ) (texts : List (List ℕ)) : Type 0 where
  pub kinds_are : kinds ≡ map kind_of s.bindings.loaders
  pub texts_are : texts ≡ flat_map texts_of s.bindings.loaders

abbrev pub CopiesLoaders : List ℕ → List (List ℕ) → ServerOf → Result (Unit {0}) Fault → Type 0
CopiesLoaders kinds texts s done = OnOk done (AreLoaders s kinds texts)

abbrev pub TellsLoaderSizes : LoaderSizes → ServerOf → Result (Unit {0}) Fault → Type 0
TellsLoaderSizes sizes s done = OnOk done (sizes ≡ record {
  loaders = length s.bindings.loaders;
  bytes = size_of (flat_map texts_of s.bindings.loaders);
})
