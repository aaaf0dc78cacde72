-- Ports as the code keeps them are the ports of an instance.
use Rattle.std.specs.Prelude.{ℕ, Bool, Option, List, map}
use Rattle.messages.specs.declared.port.Port.{Port}

-- a port: the places of the mode's key among its columns, in the order of the key's attributes, where it has them all; and whether the port carries the key
pub record PortKey : Type 0 where
  pub places : Option (List ℕ)
  pub carries : Bool

abbrev pub port_key : Port → PortKey
port_key p = record { places = p.places; carries = p.carries }

abbrev pub port_keys : List Port → List PortKey
port_keys ports = map port_key ports
