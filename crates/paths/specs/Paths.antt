-- 01, "Numbers given back": "the answer carries its path, 32 places in crossing order; unused places and ports are 255"
use Rattle.std.specs.Prelude.{◌+◌, ◌-◌, List, ◌++◌, length, replicate, set}
use Rattle.ids.specs.declared.PortNo.{PortNo}
use Rattle.ids.specs.Ids.{no_port}
use Rattle.paths.specs.declared.Path.{Path}

-- the path that names these ports, in this order
unfoldable pub path_of : List PortNo → Path
path_of ports = record { places = ports ++ replicate (32 - length ports) no_port; count = length ports }

-- a path with one crossing more
unfoldable pub extended : Path → PortNo → Path
extended path p = record { places = set path.places path.count p; count = path.count + 1 }
