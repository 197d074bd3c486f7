-- What is read from a frame that asks (RFC 826).
use Rattle.std.specs.Prelude.{ℕ, List, Option, Some, None, if◌then◌else◌}
use Rattle.net_types.specs.Arp.{is_arp_request, asker_mac, asker_ip, asked_ip}
use Rattle.arp_frame.specs.declared.read.ArpRequest.{ArpRequest}

-- the request that a frame is, where it is one
abbrev pub request_of : List ℕ → Option ArpRequest
request_of frame =
    if is_arp_request frame then Some (record { mac = asker_mac frame; ip = asker_ip frame; target = asked_ip frame }) else None
